use Rattle.std.proofs.Common.{refl, ◌≤◌, length, arith}
use Rattle.problem_text.specs.Lines.{words}
use Rattle.problem_text.proofs.CellLaws.{words-short}
use Rattle.report_reader.proofs.util_line.count_of.Goals as goal

pub loop-word-init : goal.loop-word-init
loop-word-init c = let h : length (words c.args.text.now) ≤ length c.args.text.now = words-short c.args.text.now in (refl, omega arith)
