-- Words of a text, by runs of bytes.
use Rattle.std.proofs.Common.{◌≡◌, ℕ, ◌+◌, suc, ◌<◌, Bool, true, false, not, cond, List, [], ◌∷◌, length, take, drop, nat_eq, nat_lt, ◌≤◌, refl, sym, arith}
use Rattle.std.specs.List.{position_or_len, filter}
use Rattle.std.proofs.lemmas.Bool.Decides.{nat_tests}
use Rattle.std.specs.Prelude.{unwrap_or, Some, None}
use Rattle.std.specs.List.{position}
use Rattle.std.proofs.lemmas.List.Sums.{prefix_len-le-length}
use Rattle.problem_text.specs.Lines.{has_some}
use Rattle.wcsp_text.specs.Words.{Word, is_separator, onto_first, pieces, words}

-- a word with the bytes behind it
abbrev pub word_of : List ℕ → List ℕ → Word
word_of text rest = record { text = text; after = length rest }

-- whether a piece is a word
abbrev has_bytes : Word → Bool
has_bytes w = has_some w.text

-- bytes cut at separators: the run that they begin with, and pieces with the words of what stands behind it
abbrev BeginsWithRun : List ℕ → ℕ → List Word → Type 0
BeginsWithRun bytes n all = (t : List Word) × (all ≡ word_of (take n bytes) (drop n bytes) ∷ t) × (filter has_bytes t ≡ words (drop n bytes))

run-step : (t : Bool) (b n : ℕ) (bs : List ℕ) → BeginsWithRun bs n (pieces bs) → (t ≡ true → words (b ∷ bs) ≡ words bs) → BeginsWithRun (b ∷ bs) (cond (not t) (1 + n) 0) (cond t (word_of [] (b ∷ bs) ∷ pieces bs) (onto_first b (pieces bs)))
run-step true b n bs ih h = (pieces bs, refl, sym (h refl))
run-step false b n bs ih h =
    let e : 1 + n ≡ suc n = omega arith in
    (ih.0, rw (e, ih.1) refl, rw e ih.2)

-- bytes cut at separators begin with their first run
between-run : (bytes : List ℕ) → BeginsWithRun bytes (position_or_len is_separator bytes) (pieces bytes)
between-run [] = ([], refl, refl)
between-run (b ∷ bs) = run-step (is_separator b) b (position_or_len is_separator bs) bs (between-run bs) (λ h. rw h refl)

-- a word, and the words of what stands behind it
abbrev with_first : List ℕ → List Word
with_first bytes = word_of (take (position_or_len is_separator bytes) bytes) (drop (position_or_len is_separator bytes) bytes) ∷ words (drop (position_or_len is_separator bytes) bytes)

word-step : (b n : ℕ) (bs : List ℕ) → BeginsWithRun bs n (pieces bs) → filter has_bytes (onto_first b (pieces bs)) ≡ word_of (take (1 + n) (b ∷ bs)) (drop (1 + n) (b ∷ bs)) ∷ words (drop (1 + n) (b ∷ bs))
word-step b n bs ih =
    let e : 1 + n ≡ suc n = omega arith in
    rw (e, ih.1, ih.2) refl

-- bytes that begin with a word
words-word : (b : ℕ) (bs : List ℕ) → is_separator b ≡ false → words (b ∷ bs) ≡ with_first (b ∷ bs)
words-word b bs h = rw h (word-step b (position_or_len is_separator bs) bs (between-run bs))

-- how many separators stand first
abbrev gap_of : List ℕ → ℕ
gap_of bytes = position_or_len (λ b. not (is_separator b)) bytes

next-step : (t : Bool) (b n : ℕ) (bs : List ℕ) → is_separator b ≡ t → (0 < length (drop n bs) → words bs ≡ with_first (drop n bs)) → 0 < length (drop (cond (not (not t)) (1 + n) 0) (b ∷ bs)) → words (b ∷ bs) ≡ with_first (drop (cond (not (not t)) (1 + n) 0) (b ∷ bs))
next-step true b n bs h ih some =
    let e : 1 + n ≡ suc n = omega arith in
    rw (h, e) (ih (rw e at some))
next-step false b n bs h ih some = words-word b bs h

-- the words of a text, by the first byte that is no blank
pub words-next : (bytes : List ℕ) → 0 < length (drop (gap_of bytes) bytes) → words bytes ≡ with_first (drop (gap_of bytes) bytes)
words-next [] some = absurd (omega arith)
words-next (b ∷ bs) some = next-step (is_separator b) b (gap_of bs) bs refl (words-next bs) some

none-step : (t : Bool) (b n : ℕ) (bs : List ℕ) → is_separator b ≡ t → (length (drop n bs) ≡ 0 → words bs ≡ []) → length (drop (cond (not (not t)) (1 + n) 0) (b ∷ bs)) ≡ 0 → words (b ∷ bs) ≡ []
none-step true b n bs h ih none =
    let e : 1 + n ≡ suc n = omega arith in
    rw h (ih (rw e at none))
none-step false b n bs h ih none = absurd (omega arith)

-- a text of separators has no words
pub words-none : (bytes : List ℕ) → length (drop (gap_of bytes) bytes) ≡ 0 → words bytes ≡ []
words-none [] none = refl
words-none (b ∷ bs) none = none-step (is_separator b) b (gap_of bs) bs refl (words-none bs) none

-- no word: nothing but separators
pub next-none : (text from : List ℕ) (separators : ℕ) → separators ≡ gap_of text → from ≡ drop separators text → nat_eq (length from) 0 ≡ true → words text ≡ []
next-none text from separators e back none = words-none text (let h : length from ≡ 0 = grind (arith, nat_tests, none) in rw (back, e) at h)

-- the first word, behind the separators
pub next-some : (text from word rest : List ℕ) (separators run : ℕ) → separators ≡ gap_of text → from ≡ drop separators text → nat_eq (length from) 0 ≡ false → run ≡ position_or_len is_separator from → word ≡ take run from → rest ≡ drop run from → words text ≡ word_of word rest ∷ words rest
next-some text from word rest separators run e back some r front behind =
    let h : 0 < length from = grind (arith, nat_tests, some) in
    let there : 0 < length (drop (gap_of text) text) = rw (back, e) at h in
    rw (front, behind, r, back, e) (words-next text there)

place-step : (t : Bool) (q n : ℕ) → q ≤ n → nat_lt q n ≡ t → unwrap_or (cond t (Some q) None) n ≡ q
place-step true q n h e = refl
place-step false q n h e = grind arith

-- the first place that passes, with the length where none does
pub unwrap-position : {X : Type 0} (p : X → Bool) (xs : List X) → unwrap_or (position p xs) (length xs) ≡ position_or_len p xs
unwrap-position {X} p xs = place-step (nat_lt (position_or_len p xs) (length xs)) (position_or_len p xs) (length xs) (prefix_len-le-length (λ (x : X). not (p x)) xs) refl
