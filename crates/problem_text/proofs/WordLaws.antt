-- Words of a line, by runs of bytes.
use Rattle.std.proofs.Common.{◌≡◌, ℕ, ◌+◌, suc, ◌<◌, Bool, true, false, not, cond, List, [], ◌∷◌, length, take, drop, nat_eq, refl, sym, arith}
use Rattle.std.specs.List.{position_or_len, filter}
use Rattle.std.proofs.lemmas.Bool.Decides.{nat_tests}
use Rattle.problem_text.specs.Lines.{has_some, onto_first, is_blank, between_blanks, words}

-- bytes cut at blanks: the run that they begin with, and pieces with the words of what stands behind it
abbrev BeginsWithRun : List ℕ → ℕ → List (List ℕ) → Type 0
BeginsWithRun bytes n pieces = (t : List (List ℕ)) × (pieces ≡ take n bytes ∷ t) × (filter has_some t ≡ words (drop n bytes))

run-step : (t : Bool) (b n : ℕ) (bs : List ℕ) → BeginsWithRun bs n (between_blanks bs) → (t ≡ true → words (b ∷ bs) ≡ words bs) → BeginsWithRun (b ∷ bs) (cond (not t) (1 + n) 0) (cond t ([] ∷ between_blanks bs) (onto_first b (between_blanks bs)))
run-step true b n bs ih h = (between_blanks bs, refl, sym (h refl))
run-step false b n bs ih h =
    let e : 1 + n ≡ suc n = omega arith in
    (ih.0, rw (e, ih.1) refl, rw e ih.2)

-- bytes cut at blanks begin with their first run
between-run : (bytes : List ℕ) → BeginsWithRun bytes (position_or_len is_blank bytes) (between_blanks bytes)
between-run [] = ([], refl, refl)
between-run (b ∷ bs) = run-step (is_blank b) b (position_or_len is_blank bs) bs (between-run bs) (λ h. rw h refl)

-- a word, and the words of what stands behind it
abbrev pub with_first : List ℕ → List (List ℕ)
with_first bytes = take (position_or_len is_blank bytes) bytes ∷ words (drop (position_or_len is_blank bytes) bytes)

word-step : (b n : ℕ) (bs : List ℕ) → BeginsWithRun bs n (between_blanks bs) → filter has_some (onto_first b (between_blanks bs)) ≡ take (1 + n) (b ∷ bs) ∷ words (drop (1 + n) (b ∷ bs))
word-step b n bs ih =
    let e : 1 + n ≡ suc n = omega arith in
    rw (e, ih.1, ih.2) refl

-- bytes that begin with a word
pub words-word : (b : ℕ) (bs : List ℕ) → is_blank b ≡ false → words (b ∷ bs) ≡ with_first (b ∷ bs)
words-word b bs h = rw h (word-step b (position_or_len is_blank bs) bs (between-run bs))

-- how many blanks stand first
abbrev pub blanks_of : List ℕ → ℕ
blanks_of bytes = position_or_len (λ b. not (is_blank b)) bytes

next-step : (t : Bool) (b n : ℕ) (bs : List ℕ) → is_blank b ≡ t → (0 < length (drop n bs) → words bs ≡ with_first (drop n bs)) → 0 < length (drop (cond (not (not t)) (1 + n) 0) (b ∷ bs)) → words (b ∷ bs) ≡ with_first (drop (cond (not (not t)) (1 + n) 0) (b ∷ bs))
next-step true b n bs h ih some =
    let e : 1 + n ≡ suc n = omega arith in
    rw (h, e) (ih (rw e at some))
next-step false b n bs h ih some = words-word b bs h

-- the words of a line, by the first byte that is no blank
pub words-next : (bytes : List ℕ) → 0 < length (drop (blanks_of bytes) bytes) → words bytes ≡ with_first (drop (blanks_of bytes) bytes)
words-next [] some = absurd (omega arith)
words-next (b ∷ bs) some = next-step (is_blank b) b (blanks_of bs) bs refl (words-next bs) some

none-step : (t : Bool) (b n : ℕ) (bs : List ℕ) → is_blank b ≡ t → (length (drop n bs) ≡ 0 → words bs ≡ []) → length (drop (cond (not (not t)) (1 + n) 0) (b ∷ bs)) ≡ 0 → words (b ∷ bs) ≡ []
none-step true b n bs h ih none =
    let e : 1 + n ≡ suc n = omega arith in
    rw h (ih (rw e at none))
none-step false b n bs h ih none = absurd (omega arith)

-- a line of blanks has no words
pub words-none : (bytes : List ℕ) → length (drop (blanks_of bytes) bytes) ≡ 0 → words bytes ≡ []
words-none [] none = refl
words-none (b ∷ bs) none = none-step (is_blank b) b (blanks_of bs) bs refl (words-none bs) none

-- no word: nothing but blanks
pub next-none : (text from : List ℕ) (blanks : ℕ) → blanks ≡ blanks_of text → from ≡ drop blanks text → nat_eq (length from) 0 ≡ true → words text ≡ []
next-none text from blanks e back none = words-none text (let h : length from ≡ 0 = grind (arith, nat_tests, none) in rw (back, e) at h)

-- the first word, behind the blanks
pub next-some : (text from word rest : List ℕ) (blanks run : ℕ) → blanks ≡ blanks_of text → from ≡ drop blanks text → nat_eq (length from) 0 ≡ false → run ≡ position_or_len is_blank from → word ≡ take run from → rest ≡ drop run from → words text ≡ word ∷ words rest
next-some text from word rest blanks run e back some r front behind =
    let h : 0 < length from = grind (arith, nat_tests, some) in
    let there : 0 < length (drop (blanks_of text) text) = rw (back, e) at h in
    rw (front, behind, r, back, e) (words-next text there)
