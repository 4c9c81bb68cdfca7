-- Lines of a text, by the first LF.
use Rattle.std.proofs.Common.{◌≡◌, ℕ, ◌+◌, suc, ◌<◌, ◌≤◌, Bool, true, false, not, cond, List, [], ◌∷◌, ◌++◌, length, take, drop, nat_eq, nat_lt, refl, sym, ◌∙◌, ⊎_elim, arith}
use Rattle.std.specs.List.{position_or_len, position}
use Rattle.std.specs.Prelude.{unwrap_or, Option, Some, None}
use Rattle.std.proofs.lemmas.Bool.{cases_lt, false≢true}
use Rattle.std.proofs.lemmas.List.Quantifiers.{position-Some}
use Rattle.dcop_base.proofs.FaultLaws.{position-none}
use Rattle.memchr.specs.Find.{IsFirstByte}
use Rattle.std.proofs.lemmas.List.Sums.{prefix_len-le-length}
use Rattle.problem_text.specs.Lines.{onto_first, lines, without_last}

place-step : (t : Bool) (q n : ℕ) → q ≤ n → nat_lt q n ≡ t → unwrap_or (cond t (Some q) None) n ≡ q
place-step true q n h e = refl
place-step false q n h e = grind arith

-- the first place that passes, with the length where none does
pub unwrap-position : {X : Type 0} (p : X → Bool) (xs : List X) → unwrap_or (position p xs) (length xs) ≡ position_or_len p xs
unwrap-position {X} p xs = place-step (nat_lt (position_or_len p xs) (length xs)) (position_or_len p xs) (length xs) (prefix_len-le-length (λ (x : X). not (p x)) xs) refl

lines-step : (t : Bool) (b n : ℕ) (bs : List ℕ) → cond (not t) (1 + n) 0 < suc (length bs) → (n < length bs → lines bs ≡ take (n + 1) bs ∷ lines (drop (n + 1) bs)) → cond t ((b ∷ []) ∷ lines bs) (onto_first b (lines bs)) ≡ take (cond (not t) (1 + n) 0 + 1) (b ∷ bs) ∷ lines (drop (cond (not t) (1 + n) 0 + 1) (b ∷ bs))
lines-step true b n bs h ih = refl
lines-step false b n bs h ih = let e : (1 + n) + 1 ≡ suc (n + 1) = omega arith in rw (e, ih (omega arith)) refl

-- a text with an LF: its first line ends behind it
pub lines-ended : (text : List ℕ) → position_or_len (λ b. nat_eq b 10) text < length text → lines text ≡ take (position_or_len (λ b. nat_eq b 10) text + 1) text ∷ lines (drop (position_or_len (λ b. nat_eq b 10) text + 1) text)
lines-ended [] h = absurd (omega arith)
lines-ended (b ∷ bs) h = lines-step (nat_eq b 10) b (position_or_len (λ b. nat_eq b 10) bs) bs h (lines-ended bs)

-- a text as one line, where it is not empty
abbrev one_line : List ℕ → List (List ℕ)
one_line [] = []
one_line (b ∷ bs) = (b ∷ bs) ∷ []

take_all : (xs : List ℕ) → take (length xs) xs ≡ xs
take_all [] = refl
take_all (x ∷ xs) = rw (take_all xs) refl

drop_all : (xs : List ℕ) → drop (length xs) xs ≡ []
drop_all [] = refl
drop_all (x ∷ xs) = drop_all xs

open-step : (t : Bool) (b n : ℕ) (bs : List ℕ) → suc (length bs) ≤ cond (not t) (1 + n) 0 → (length bs ≤ n → lines bs ≡ one_line bs) → cond t ((b ∷ []) ∷ lines bs) (onto_first b (lines bs)) ≡ (b ∷ bs) ∷ []
open-step true b n bs h ih = absurd (omega arith)
open-step false b n [] h ih = refl
open-step false b n (x ∷ xs) h ih = rw (ih (omega arith)) refl

-- a text without LF: it is one line, where it is not empty
pub lines-open : (text : List ℕ) → length text ≤ position_or_len (λ b. nat_eq b 10) text → lines text ≡ one_line text
lines-open [] h = refl
lines-open (b ∷ bs) h = open-step (nat_eq b 10) b (position_or_len (λ b. nat_eq b 10) bs) bs h (lines-open bs)

-- a text without LF that is not empty, in the form of a first line and what stands behind it
pub lines-one : (text : List ℕ) → 0 < length text → length text ≤ position_or_len (λ b. nat_eq b 10) text → lines text ≡ take (length text) text ∷ lines (drop (length text) text)
lines-one [] some h = absurd (omega arith)
lines-one (b ∷ bs) some h = rw (lines-open (b ∷ bs) h, take_all bs, drop_all bs) refl

-- bytes behind which this one stands
pub without_last-there : (b x : ℕ) (front : List ℕ) → nat_eq x b ≡ true → without_last b (front ++ (x ∷ [])) ≡ front
without_last-there b x [] h = rw h refl
without_last-there b x (y ∷ []) h = rw h refl
without_last-there b x (y ∷ z ∷ ys) h = rw (without_last-there b x (z ∷ ys) h) refl

-- bytes behind which another one stands
pub without_last-other : (b x : ℕ) (front : List ℕ) → nat_eq x b ≡ false → without_last b (front ++ (x ∷ [])) ≡ front ++ (x ∷ [])
without_last-other b x [] h = rw h refl
without_last-other b x (y ∷ []) h = rw h refl
without_last-other b x (y ∷ z ∷ ys) h = rw (without_last-other b x (z ∷ ys) h) refl

-- the first line, by the place of its LF
pub first-ended : (text line rest : List ℕ) (end : ℕ) → end ≡ position_or_len (λ b. nat_eq b 10) text → end < length text → line ≡ take (end + 1) text → rest ≡ drop (end + 1) text → lines text ≡ line ∷ lines rest
first-ended text line rest end e h front back = rw (front, back, e) (lines-ended text (rw e at h))

-- the first line, where there is no LF
pub first-open : (text line rest : List ℕ) (end : ℕ) → end ≡ position_or_len (λ b. nat_eq b 10) text → 0 < length text → length text ≤ end → line ≡ take (length text) text → rest ≡ drop (length text) text → lines text ≡ line ∷ lines rest
first-open text line rest end e some h front back = rw (front, back) (lines-one text some (rw e at h))

-- the place of the first byte that passes, as a search tells it
pub first-position : (p : ℕ → Bool) (bytes : List ℕ) (r o : Option ℕ) → position p bytes ≡ o → IsFirstByte p bytes r → r ≡ o
first-position p bytes None None e first = refl
first-position p bytes None (Some i) e first =
    let at = position-Some p bytes i 0 e in
    absurd (first i (omega arith) at.0 at.1)
first-position p bytes (Some k) None e first =
    absurd (false≢true (sym (position-none p bytes e k 0 first.0.high) ∙ first.1))
first-position p bytes (Some k) (Some i) e first =
    let at = position-Some p bytes i 0 e in
    ⊎_elim
    (λ below. absurd (false≢true (sym (at.2 k below) ∙ first.1)))
    (λ above. ⊎_elim
    (λ before. absurd (first.0.before i (omega arith) before at.1))
    (λ after. let same : k ≡ i = omega arith in rw same refl)
    (cases_lt i k))
    (cases_lt k i)
