use Rattle.std.proofs.Common.{◌≡◌, ◌≤◌, ◌+◌, length}
use Rattle.problem_text.specs.Lines.{words}
use Rattle.problem_text.specs.Tables.{numbers_of}
use Rattle.problem_text.proofs.CellLaws.{behind, told}
use Rattle.problem_text.proofs.cell_words.cells_of.Given as goal

-- what was read, with what is left, is the whole, and all of it is kept up to the most
abbrev pub invariant-loop-number : goal.invariant-loop-number
invariant-loop-number l =
    (told l.count l.greatest (numbers_of (words l.rest)) ≡ told 0 0 (numbers_of (words l.text)))
    × (l.count + length (words l.rest) ≤ length l.text)
    × (l.count ≤ l.most → behind l.cells.items (numbers_of (words l.rest)) ≡ numbers_of (words l.text))

abbrev pub decreases-loop-number : goal.decreases-loop-number
decreases-loop-number l = length (words l.rest)
