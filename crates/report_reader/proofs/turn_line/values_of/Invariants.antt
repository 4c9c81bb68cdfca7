use Rattle.std.proofs.Common.{◌≡◌, drop}
use Rattle.problem_text.specs.Lines.{words}
use Rattle.report_reader.specs.TurnLine.{values_told}
use Rattle.report_reader.proofs.TurnLineLaws.{values_after}
use Rattle.report_reader.proofs.turn_line.values_of.Given as goal

-- the values, with what the words that are left tell, are all values
abbrev pub invariant-loop-size : goal.invariant-loop-size
invariant-loop-size l = values_after l.values.items (values_told (drop l.size-index l.sizes) (words l.rest)) ≡ values_told l.sizes (words l.text)
