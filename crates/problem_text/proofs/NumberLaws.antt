-- Numbers among the words of a line, by runs of digits.
use Rattle.std.proofs.Common.{◌≡◌, ℕ, ◌+◌, zero, suc, ◌<◌, ◌≤◌, Bool, true, false, not, cond, List, [], ◌∷◌, length, take, drop, get_or, Some, refl, sym, ◌∙◌, ◌*◌, ◌^◌, lit<, arith}
use Rattle.std.specs.List.{list_all, position_or_len}
use Rattle.std.specs.Char.{is_ascii_digit}
use Rattle.std.proofs.lemmas.Bool.{and_parts}
use Rattle.std.proofs.lemmas.Bool.Decides.{nat_tests}
use Rattle.std.proofs.Math.Nat.{pow-le-pow_right}
use Rattle.dcop_base.specs.NumberWord.{number_of}
use Rattle.problem_text.specs.Lines.{is_blank, words}
use Rattle.problem_text.specs.Tables.{onto, numbers_of}
use Rattle.problem_text.proofs.WordLaws.{blanks_of, with_first, words-word}

skip-step : (t : Bool) (b n : ℕ) (bs : List ℕ) → is_blank b ≡ t → words (drop n bs) ≡ words bs → words (drop (cond (not (not t)) (1 + n) 0) (b ∷ bs)) ≡ words (b ∷ bs)
skip-step true b n bs h ih =
    let e : 1 + n ≡ suc n = omega arith in
    rw (h, e) ih
skip-step false b n bs h ih = refl

-- the words behind the blanks that stand first
pub words-skip : (bytes : List ℕ) → words (drop (blanks_of bytes) bytes) ≡ words bytes
words-skip [] = refl
words-skip (b ∷ bs) = skip-step (is_blank b) b (blanks_of bs) bs refl (words-skip bs)

-- the words behind a space
pub words-behind_space : (text from : List ℕ) → 1 ≤ length text → get_or text 0 0 ≡ 32 → from ≡ drop 1 text → words from ≡ words text
words-behind_space [] from some space back = absurd (omega arith)
words-behind_space (b ∷ bs) from some space back = rw (back, space) refl

at-step : (t : Bool) (b : ℕ) (bs : List ℕ) → is_blank b ≡ t → 1 ≤ cond (not t) (1 + position_or_len is_blank bs) 0 → words (b ∷ bs) ≡ with_first (b ∷ bs)
at-step true b bs h some = absurd (omega arith)
at-step false b bs h some = words-word b bs h

-- the words of bytes that begin with one
words-at : (bytes : List ℕ) → 1 ≤ position_or_len is_blank bytes → words bytes ≡ with_first bytes
words-at [] some = absurd (omega arith)
words-at (b ∷ bs) some = at-step (is_blank b) b bs refl some

digit-no_blank : (b : ℕ) → is_ascii_digit b ≡ true → is_blank b ≡ false
digit-no_blank b h = grind (arith, nat_tests)

-- digits, and behind them a blank or nothing
pub run-digits : (n : ℕ) (text : List ℕ) → n ≤ length text → list_all is_ascii_digit (take n text) ≡ true → (n < length text → is_blank (get_or text n 0) ≡ true) → position_or_len is_blank text ≡ n
run-digits zero [] within all end = refl
run-digits zero (b ∷ bs) within all end = rw (end (omega arith)) refl
run-digits (suc n) [] within all end = absurd (omega arith)
run-digits (suc n) (b ∷ bs) within all end =
    let first = digit-no_blank b ((and_parts (is_ascii_digit b) (list_all is_ascii_digit (take n bs)) all).0) in
    let later = run-digits n bs (omega arith) ((and_parts (is_ascii_digit b) (list_all is_ascii_digit (take n bs)) all).1) (λ h. end (omega arith)) in
    let e : 1 + n ≡ suc n = omega arith in
    rw (first, later) e

-- a number, and the numbers behind it
pub number-first : (text from after : List ℕ) (n value : ℕ) → words from ≡ words text → n ≡ position_or_len is_blank from → 1 ≤ n → after ≡ drop n from → number_of (take n from) ≡ Some value → (numbers_of (words text) ≡ onto (Some value) (numbers_of (words after))) × (length (words after) + 1 ≡ length (words text))
number-first text from after n value same run some behind number =
    let e : words text ≡ take n from ∷ words after = sym same ∙ words-at from (rw run at some) ∙ (rw (behind, run) refl) in
    (rw (e, number) refl, rw e (omega arith))

-- one digit more after at most 18 fits 64 bits
pub fits-after : (value k digit : ℕ) → value < 10 ^ k → k < 19 → digit < 256 → value * 10 + digit < 2 ^ 64
fits-after value k digit below short small =
    let within : k ≤ 18 = omega arith in
    let bound : 10 ^ k ≤ 10 ^ 18 = pow-le-pow_right (lit< tt) within in
    omega arith
