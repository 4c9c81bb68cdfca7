-- The first of the lines with words, in the form of the reader's result.
use Rattle.std.specs.Prelude.{◌≡◌, ◌+◌, List, [], ◌∷◌, Option, Some, None}
use Rattle.problem_text.specs.declared.word_line.WordLine.{WordLine}
use Rattle.problem_text.specs.Lines.{Line, lines, words, numbered, with_words}

-- the result is the first of these lines with the text after it, and none exactly if there are no
-- lines
abbrev pub IsFirstLine : List Line → Option WordLine → Type 0
IsFirstLine ls None = ls ≡ []
IsFirstLine ls (Some l) =
    ls ≡ record { number = l.number; words = words l.text.now; used = l.used } ∷ with_words (numbered (l.number + 1) l.used (lines l.after.now))
