-- A WCSP text as words, and the line of a word.
use Rattle.std.specs.Prelude.{ℕ, ◌+◌, ◌-◌, ◌||◌, Bool, List, [], ◌∷◌, length, take, ◌==◌, if◌then◌else◌, count_by}
use Rattle.std.specs.List.{filter}
use Rattle.problem_text.specs.Bytes.{line_feed, carriage_return}
use Rattle.problem_text.specs.Lines.{has_some}

-- whether a byte separates words: space, tab, line_feed or carriage_return
abbrev pub is_separator : ℕ → Bool
is_separator b = b == 32 || b == 9 || b == line_feed || b == carriage_return

-- a word, or an empty piece, and how many bytes of the text follow it
pub record Word : Type 0 where
  pub text : List ℕ
  pub after : ℕ

-- these pieces with a byte put before the first one
abbrev pub onto_first : ℕ → List Word → List Word
onto_first b [] = []
onto_first b (piece ∷ pieces) = record { text = b ∷ piece.text; after = piece.after } ∷ pieces

-- the pieces of a text, which is cut at each byte that separates words
abbrev pub pieces : List ℕ → List Word
pieces [] = record { text = []; after = 0 } ∷ []
pieces (b ∷ bs) =
    if is_separator b then record { text = []; after = length (b ∷ bs) } ∷ pieces bs
    else onto_first b (pieces bs)

-- the words of a text: its longest runs of bytes that do not separate words
abbrev pub words : List ℕ → List Word
words bytes = filter (λ w. has_some w.text) (pieces bytes)

-- the line of the word after which `after` bytes of the text are left, or of the text's end if
-- `after` is 0: 1 plus the number of line_feed bytes in the text before those bytes
abbrev pub line_at : List ℕ → ℕ → ℕ
line_at bytes after = 1 + count_by (λ b. b == line_feed) (take (length bytes - after) bytes)
