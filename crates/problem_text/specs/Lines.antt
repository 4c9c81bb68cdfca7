-- A text as lines, and a line as words.
use Rattle.std.specs.Prelude.{ℕ, ◌+◌, Bool, true, false, ◌||◌, List, [], ◌∷◌, length, ◌==◌, if◌then◌else◌}
use Rattle.std.specs.List.{filter, before_first}
use Rattle.problem_text.specs.Bytes.{line_feed, carriage_return, hash_sign, space, tab}

-- whether a list has an element
abbrev pub has_some : {X : Type 0} → List X → Bool
has_some [] = false
has_some (x ∷ xs) = true

-- these pieces with a byte put before the first one; if there are none, the byte alone
abbrev pub onto_first : ℕ → List (List ℕ) → List (List ℕ)
onto_first b [] = (b ∷ []) ∷ []
onto_first b (piece ∷ pieces) = (b ∷ piece) ∷ pieces

-- the lines of a text, which is cut after each line_feed: each line with its line_feed, and a last
-- line without one if it is not empty
abbrev pub lines : List ℕ → List (List ℕ)
lines [] = []
lines (b ∷ bs) = if b == line_feed then (b ∷ []) ∷ lines bs else onto_first b (lines bs)

-- bytes without their last byte if that is this byte, and all of them otherwise
abbrev pub without_last : ℕ → List ℕ → List ℕ
without_last b [] = []
without_last b (x ∷ []) = if x == b then [] else x ∷ []
without_last b (x ∷ y ∷ ys) = x ∷ without_last b (y ∷ ys)

-- the bytes before the start of a comment
abbrev pub before_comment : List ℕ → List ℕ
before_comment bytes = before_first (λ b. b == hash_sign) bytes

-- the content of a line: its line_feed, then one carriage_return at its end, then its comment are
-- dropped
abbrev pub content : List ℕ → List ℕ
content line = before_comment (without_last carriage_return (without_last line_feed line))

-- whether a byte separates words: space or tab
abbrev pub is_blank : ℕ → Bool
is_blank b = b == space || b == tab

-- the pieces of bytes that are divided at each blank
abbrev pub between_blanks : List ℕ → List (List ℕ)
between_blanks [] = [] ∷ []
between_blanks (b ∷ bs) = if is_blank b then [] ∷ between_blanks bs else onto_first b (between_blanks bs)

-- the words of a line: its longest runs of bytes other than blanks
abbrev pub words : List ℕ → List (List ℕ)
words bytes = filter has_some (between_blanks bytes)

-- a line: its number, its words, and how many bytes the text has up to and including it
pub record Line : Type 0 where
  pub number : ℕ
  pub words : List (List ℕ)
  pub used : ℕ

-- lines with their numbers and words; the first has this number, and `used` bytes precede it
abbrev pub numbered : ℕ → ℕ → List (List ℕ) → List Line
numbered number used [] = []
numbered number used (line ∷ later) =
    record { number = number; words = words (content line); used = used + length line }
    ∷ numbered (number + 1) (used + length line) later

-- the lines that have words
abbrev pub with_words : List Line → List Line
with_words ls = filter (λ line. has_some line.words) ls
