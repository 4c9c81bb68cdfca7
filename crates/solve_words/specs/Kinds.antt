-- The numbers that a user sees for the kinds of refused words.
use Rattle.std.specs.Prelude.{ℕ}
use Rattle.solve_words.specs.declared.fault.WordKind.{WordKind}
use Rattle.solve_words.specs.declared.fault.WordKind.TheVariants.{NoCommand, UnknownCommand, UnknownOption, NoValue, Twice, BadNumber, OutOfRange, BadChoice, NotWith}

-- the number of a kind
abbrev pub number_of_words : WordKind → ℕ
number_of_words NoCommand = 1
number_of_words UnknownCommand = 2
number_of_words UnknownOption = 3
number_of_words NoValue = 4
number_of_words Twice = 5
number_of_words BadNumber = 6
number_of_words OutOfRange = 7
number_of_words BadChoice = 8
number_of_words NotWith = 9
