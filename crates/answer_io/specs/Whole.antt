-- What a whole input is read as, up to its last line.
use Rattle.std.specs.Prelude.{ℕ, List, Option, Some, None, Result, Ok, Err, find, nat_lt}
use Rattle.problem_text.specs.declared.fault.TextKind.TheVariants.{AfterEnd}
use Rattle.problem_text.specs.Lines.{Line, lines, numbered, with_words}
use Rattle.problem_text.specs.Declarations.{Declared}
use Rattle.problem_text.specs.Reading.{Fault, Parts, text_read}

-- of a text's lines, the first that has words and ends after more than `used` bytes
abbrev pub line_after : List ℕ → ℕ → Option Line
line_after bytes used = find (λ line. nat_lt used line.used) (with_words (numbered 1 0 (lines bytes)))

-- what a text declares; or the fault of this line with words after the line `end`
abbrev pub unless_after : Declared → Option Line → Result Declared Fault
unless_after declared None = Ok declared
unless_after declared (Some line) = Err (record { line = line.number; kind = AfterEnd })

-- what a text is read as up to its last line, given what it is read as up to its line `end`
abbrev pub read_to_last : List ℕ → Result Parts Fault → Result Declared Fault
read_to_last bytes (Ok parts) = unless_after parts.declared (line_after bytes parts.used)
read_to_last bytes (Err fault) = Err fault

-- what a whole input is read as: what it declares, or its first fault
abbrev pub whole_read : List ℕ → Result Declared Fault
whole_read bytes = read_to_last bytes (text_read bytes)
