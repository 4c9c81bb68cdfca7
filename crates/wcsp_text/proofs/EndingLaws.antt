-- The line on which a network ends, and the bytes up to it.
use Rattle.std.proofs.Common.{◌≡◌, ℕ, zero, suc, ◌+◌, ◌-◌, ◌<◌, ◌≤◌, Bool, true, false, not, cond, List, [], ◌∷◌, ◌++◌, length, take, drop, min, Some, None, nat_eq, nat_lt, refl, sym, ap, ◌∙◌, subst, arith, position}
use Rattle.std.specs.List.{sum_by, position_or_len}
use Rattle.std.specs.Prelude.{count_by}
use Rattle.std.proofs.lemmas.List.{take-append-drop}
use Rattle.std.proofs.lemmas.List.Sums.{sum_by-cons}
use Rattle.std.proofs.lemmas.Bool.Decides.{nat_tests}
use Rattle.problem_text.specs.Lines.{lines, onto_first}
use Rattle.wcsp_text.specs.Words.{line_at}
use Rattle.wcsp_text.specs.Texts.{bytes_to}

-- how many bytes the first lines have
abbrev total : ℕ → List (List ℕ) → ℕ
total n ls = sum_by (λ l. length l) (take n ls)

-- how many of the bytes are LF
abbrev feeds : List ℕ → ℕ
feeds bytes = count_by (λ b. nat_eq b 10) bytes

total-cons : (n : ℕ) (l : List ℕ) (ls : List (List ℕ)) → total (suc n) (l ∷ ls) ≡ length l + total n ls
total-cons n l ls = sum_by-cons (λ (l : List ℕ). length l) l (take n ls)

total-nil : (n : ℕ) → total n [] ≡ 0
total-nil zero = refl
total-nil (suc n) = refl

grow : (b n d : ℕ) (ls : List (List ℕ)) → total (suc n) ls ≡ d → total (suc n) (onto_first b ls) ≡ 1 + d
grow b n d [] e = let one = total-cons n (b ∷ []) [] in let two = total-nil n in let three = total-nil (suc n) in omega (arith, one, two, three, e)
grow b n d (l ∷ ls) e = let one = total-cons n (b ∷ l) ls in let two = total-cons n l ls in omega (arith, one, two, e)

front-step : (t : Bool) (b n m d : ℕ) (ls : List (List ℕ)) → m ≡ cond t 1 0 + n → total (1 + n) ls ≡ d → total (1 + m) (cond t ((b ∷ []) ∷ ls) (onto_first b ls)) ≡ 1 + d
front-step true b n m d ls is e =
    let s : 1 + m ≡ suc (1 + n) = omega (arith, is) in
    rw s (let one = total-cons (1 + n) (b ∷ []) ls in omega (arith, one, e))
front-step false b n m d ls is e =
    let s : 1 + m ≡ suc n = omega (arith, is) in
    let same : 1 + n ≡ suc n = omega arith in
    let h : total (suc n) ls ≡ d = subst (λ (k : ℕ). total k ls ≡ d) same e in
    rw s (grow b n d ls h)

-- lines up to the one that begins in the front or goes on in it
pub front-lines : (front back : List ℕ) → total (1 + feeds front) (lines (front ++ back)) ≡ length front + total 1 (lines back)
front-lines [] back = omega arith
front-lines (b ∷ bs) back =
    let step = front-step (nat_eq b 10) b (feeds bs) (feeds (b ∷ bs)) (length bs + total 1 (lines back)) (lines (bs ++ back)) (sum_by-cons (λ b. cond (nat_eq b 10) 1 0) b bs) (front-lines bs back) in
    let e : 1 + (length bs + total 1 (lines back)) ≡ suc (length bs) + total 1 (lines back) = omega arith in
    step ∙ e

first-step : (t : Bool) (b n : ℕ) (bs : List ℕ) → total 1 (lines bs) ≡ min (n + 1) (length bs) → total 1 (cond t ((b ∷ []) ∷ lines bs) (onto_first b (lines bs))) ≡ min (cond (not t) (1 + n) 0 + 1) (suc (length bs))
first-step true b n bs e = let one = total-cons 0 (b ∷ []) (lines bs) in omega (arith, one)
first-step false b n bs e = let one = grow b 0 (min (n + 1) (length bs)) (lines bs) e in omega (arith, one)

-- the first line ends with its LF
pub first-line : (text : List ℕ) → total 1 (lines text) ≡ min (position_or_len (λ b. nat_eq b 10) text + 1) (length text)
first-line [] = refl
first-line (b ∷ bs) = first-step (nat_eq b 10) b (position_or_len (λ b. nat_eq b 10) bs) bs (first-line bs)

found-step : (t : Bool) (q n end : ℕ) → nat_lt q n ≡ t → cond t (Some q) None ≡ Some end → (end ≡ q) × (q < n)
found-step true q n end e h = (sym (cc), grind (arith, nat_tests, e))
found-step false q n end e h = cc

none-step : (t : Bool) (q n : ℕ) → nat_lt q n ≡ t → cond t (Some q) None ≡ None → n ≤ q
none-step true q n e h = cc
none-step false q n e h = grind (arith, nat_tests, e)

whole : (bytes : List ℕ) (k : ℕ) → total (1 + feeds (take k bytes)) (lines bytes) ≡ length (take k bytes) + total 1 (lines (drop k bytes))
whole bytes k = ap (λ (text : List ℕ). total (1 + feeds (take k bytes)) (lines text)) (sym (take-append-drop k bytes)) ∙ front-lines (take k bytes) (drop k bytes)

-- bytes up to the LF behind a word
pub used-some : (bytes front back : List ℕ) (after end : ℕ) → front ≡ take (length bytes - after) bytes → back ≡ drop (length bytes - after) bytes → position (λ b. nat_eq b 10) back ≡ Some end → length front + end + 1 ≡ bytes_to bytes (line_at bytes after)
used-some bytes front back after end f b e =
    let at = found-step (nat_lt (position_or_len (λ b. nat_eq b 10) back) (length back)) (position_or_len (λ b. nat_eq b 10) back) (length back) end refl e in
    let all = whole bytes (length bytes - after) in
    let line : total 1 (lines back) ≡ end + 1 = let l = first-line back in omega (arith, at.0, at.1, l) in
    let here : total (1 + feeds (take (length bytes - after) bytes)) (lines bytes) ≡ length front + total 1 (lines back) = rw (f, b) all in
    omega (arith, here, line)

-- all bytes, where no LF stands behind a word
pub used-none : (bytes front back : List ℕ) (after : ℕ) → front ≡ take (length bytes - after) bytes → back ≡ drop (length bytes - after) bytes → length front + length back ≡ length bytes → position (λ b. nat_eq b 10) back ≡ None → length bytes ≡ bytes_to bytes (line_at bytes after)
used-none bytes front back after f b sum e =
    let at = none-step (nat_lt (position_or_len (λ b. nat_eq b 10) back) (length back)) (position_or_len (λ b. nat_eq b 10) back) (length back) refl e in
    let all = whole bytes (length bytes - after) in
    let line : total 1 (lines back) ≡ length back = let l = first-line back in omega (arith, at, l) in
    let here : total (1 + feeds (take (length bytes - after) bytes)) (lines bytes) ≡ length front + total 1 (lines back) = rw (f, b) all in
    omega (arith, here, line, sum)
