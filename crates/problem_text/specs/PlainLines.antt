-- A text as lines in which no byte begins a comment.
use Rattle.std.specs.Prelude.{◌≡◌, ℕ, ◌+◌, List, [], ◌∷◌, Option, Some, None}
use Rattle.std.specs.List.{filter}
use Rattle.problem_text.specs.Bytes.{line_feed, carriage_return}
use Rattle.problem_text.specs.declared.plain_line.PlainLine.{PlainLine}
use Rattle.problem_text.specs.Lines.{has_some, lines, without_last, words}

-- the content of a line: its line_feed, then one carriage_return at its end are dropped
abbrev pub plain_content : List ℕ → List ℕ
plain_content line = without_last carriage_return (without_last line_feed line)

-- a line: its number and its words
pub record Plain : Type 0 where
  pub number : ℕ
  pub words : List (List ℕ)

-- lines with their numbers and words; the first has this number
abbrev pub plain_numbered : ℕ → List (List ℕ) → List Plain
plain_numbered number [] = []
plain_numbered number (line ∷ later) =
    record { number = number; words = words (plain_content line) } ∷ plain_numbered (number + 1) later

-- the lines of a text that have words; the text's first line has this number
abbrev pub plain_lines : ℕ → List ℕ → List Plain
plain_lines number text = filter (λ line. has_some line.words) (plain_numbered number (lines text))

-- the result is the first of these lines with the text after it, and none exactly if there are no
-- lines
abbrev pub IsFirstPlain : List Plain → Option PlainLine → Type 0
IsFirstPlain ls None = ls ≡ []
IsFirstPlain ls (Some l) = ls ≡ record { number = l.number; words = words l.text.now } ∷ plain_lines (l.number + 1) l.after.now
