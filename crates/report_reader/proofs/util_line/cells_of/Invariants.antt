use Rattle.std.proofs.Common.{◌≡◌, length}
use Rattle.problem_text.specs.Lines.{words}
use Rattle.problem_text.proofs.CellLaws.{behind}
use Rattle.report_reader.specs.Told.{amounts_of}
use Rattle.report_reader.proofs.util_line.cells_of.Given as goal

-- the cells, with what is left, are all numbers
abbrev pub invariant-loop-word : goal.invariant-loop-word
invariant-loop-word l = behind l.cells.items (amounts_of (words l.rest)) ≡ amounts_of (words l.text)

abbrev pub decreases-loop-word : goal.decreases-loop-word
decreases-loop-word l = length (words l.rest)
