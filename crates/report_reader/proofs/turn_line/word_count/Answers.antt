use Rattle.std.proofs.Common.{◌≤◌, length, arith}
use Rattle.problem_text.specs.Lines.{words}
use Rattle.problem_text.proofs.CellLaws.{words-short}
use Rattle.report_reader.proofs.turn_line.word_count.Goals as goal

pub loop-after-init : goal.loop-after-init
loop-after-init c = let h : length (words c.args.text.now) ≤ length c.args.text.now = words-short c.args.text.now in (omega arith, omega arith)
