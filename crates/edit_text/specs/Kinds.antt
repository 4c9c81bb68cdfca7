-- The numbers that a user sees for the kinds of refused edit lines.
use Rattle.std.specs.Prelude.{ℕ}
use Rattle.edit_text.specs.declared.kind.EditKind.{EditKind}
use Rattle.edit_text.specs.declared.kind.EditKind.TheVariants.{BadLine, BadNumber, NoTable, NoCell, CostTooLarge, SumTooLarge, NoEnd}

-- the number of a kind
abbrev pub number_of_edit : EditKind → ℕ
number_of_edit BadLine = 1
number_of_edit BadNumber = 2
number_of_edit NoTable = 3
number_of_edit NoCell = 4
number_of_edit CostTooLarge = 5
number_of_edit SumTooLarge = 6
number_of_edit NoEnd = 7
