use Rattle.std.proofs.Common.{◌≡◌, length}
use Rattle.problem_text.specs.Lines.{words}
use Rattle.problem_text.specs.Tables.{numbers_of}
use Rattle.problem_text.proofs.CellLaws.{behind}
use Rattle.edit_text.proofs.line.numbers_in.Given as goal

-- the numbers, with what is left, are all numbers
abbrev pub invariant-loop-word : goal.invariant-loop-word
invariant-loop-word l = behind l.numbers.items (numbers_of (words l.rest)) ≡ numbers_of (words l.text)

abbrev pub decreases-loop-word : goal.decreases-loop-word
decreases-loop-word l = length (words l.rest)
