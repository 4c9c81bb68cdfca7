-- Sums over lists of tables and of variables.
use Rattle.std.proofs.Common.{◌≡◌, ℕ, zero, suc, ◌+◌, ◌<◌, ◌≤◌, Bool, cond, List, [], ◌∷◌, refl, ap, ◌∙◌, inl, inr, arith}
use Rattle.std.specs.List.{sum_by, filter, range_with_len, All}
use Rattle.std.proofs.lemmas.Bool.{cases_Bool, cases_eq, cond-true, cond-false}
use Rattle.std.proofs.lemmas.List.Sums.{sum_by-cons}
use Rattle.std.proofs.lemmas.List.Elements.{All-head, All-tail}
use Rattle.pseudotree.proofs.WidthLaws.{sum_next}

-- the sum over what passes a test
pub sum_filter : {X : Type 0} (f : X → ℕ) (q : X → Bool) (xs : List X) → sum_by f (filter q xs) ≡ sum_by (λ x. cond (q x) (f x) 0) xs
sum_filter f q [] = refl
sum_filter f q (x ∷ xs) =
    let rest = sum_filter f q xs in
    let right = sum_by-cons (λ y. cond (q y) (f y) 0) x xs in
    elim (cases_Bool (q x)) [
      | inl passes ↦
          let left : sum_by f (filter q (x ∷ xs)) ≡ f x + sum_by f (filter q xs) = ap (λ (b : Bool). sum_by f (cond b (x ∷ filter q xs) (filter q xs))) passes ∙ sum_by-cons f x (filter q xs) in
          let here : cond (q x) (f x) 0 ≡ f x = cond-true (q x) (f x) 0 passes in
          omega (arith, left, right, here, rest)
      | inr fails ↦
          let left : sum_by f (filter q (x ∷ xs)) ≡ sum_by f (filter q xs) = ap (λ (b : Bool). sum_by f (cond b (x ∷ filter q xs) (filter q xs))) fails in
          let here : cond (q x) (f x) 0 ≡ 0 = cond-false (q x) (f x) 0 fails in
          omega (arith, left, right, here, rest)
    ]

-- sums of the same terms
pub sum_same : {X : Type 0} (f g : X → ℕ) (xs : List X) → All (λ x. f x ≡ g x) xs → sum_by f xs ≡ sum_by g xs
sum_same f g [] same = refl
sum_same f g (x ∷ xs) same =
    let here : f x ≡ g x = All-head (λ y. f y ≡ g y) x xs same in
    let rest = sum_same f g xs (All-tail (λ y. f y ≡ g y) x xs same) in
    omega (arith, here, rest, sum_by-cons f x xs, sum_by-cons g x xs)

-- a sum of terms that are each at most another's
pub sum_le : {X : Type 0} (f g : X → ℕ) (xs : List X) → All (λ x. f x ≤ g x) xs → sum_by f xs ≤ sum_by g xs
sum_le f g [] le = omega arith
sum_le f g (x ∷ xs) le =
    let here : f x ≤ g x = All-head (λ y. f y ≤ g y) x xs le in
    let rest = sum_le f g xs (All-tail (λ y. f y ≤ g y) x xs le) in
    omega (arith, here, rest, sum_by-cons f x xs, sum_by-cons g x xs)

-- a sum of sums of two terms
pub sum_both : {X : Type 0} (f g h : X → ℕ) (xs : List X) → ((x : X) → f x ≡ g x + h x) → sum_by f xs ≡ sum_by g xs + sum_by h xs
sum_both f g h [] both = refl
sum_both f g h (x ∷ xs) both =
    let rest = sum_both f g h xs both in
    omega (arith, both x, rest, sum_by-cons f x xs, sum_by-cons g x xs, sum_by-cons h x xs)

-- a sum of zeros
pub sum_zeros : {X : Type 0} (f : X → ℕ) (xs : List X) → ((x : X) → f x ≡ 0) → sum_by f xs ≡ 0
sum_zeros f [] zeros = refl
sum_zeros f (x ∷ xs) zeros = omega (arith, zeros x, sum_zeros f xs zeros, sum_by-cons f x xs)

-- a sum over a range where all terms are 0
pub range_zeros : (f : ℕ → ℕ) (n : ℕ) → ((k : ℕ) → k < n → f k ≡ 0) → sum_by f (range_with_len 0 n) ≡ 0
range_zeros f zero zeros = refl
range_zeros f (suc n) zeros =
    let more : suc n ≡ n + 1 = omega arith in
    let next : sum_by f (range_with_len 0 (suc n)) ≡ sum_by f (range_with_len 0 n) + f n = ap (λ (m : ℕ). sum_by f (range_with_len 0 m)) more ∙ sum_next f n in
    let rest = range_zeros f n (λ k lt. zeros k (omega arith)) in
    let last : f n ≡ 0 = zeros n (omega arith) in
    omega (arith, next, rest, last)

-- a sum over a range where all terms but one are 0
pub range_single : (f : ℕ → ℕ) (n b x : ℕ) → b < n → f b ≡ x → ((k : ℕ) → k < n → (k ≡ b → ⊥) → f k ≡ 0) → sum_by f (range_with_len 0 n) ≡ x
range_single f zero b x lt at others = absurd (omega arith)
range_single f (suc n) b x lt at others =
    let more : suc n ≡ n + 1 = omega arith in
    let next : sum_by f (range_with_len 0 (suc n)) ≡ sum_by f (range_with_len 0 n) + f n = ap (λ (m : ℕ). sum_by f (range_with_len 0 m)) more ∙ sum_next f n in
    elim (cases_eq b n) [
      | inl last ↦
          let rest = range_zeros f n (λ k lk. others k (omega arith) (λ (e : k ≡ b). absurd (omega (arith, e, last, lk)))) in
          let here : f n ≡ x = ap f (omega (arith, last)) ∙ at in
          omega (arith, next, rest, here)
      | inr before ↦
          let lb : b < n = omega arith in
          let rest = range_single f n b x lb at (λ k lk. others k (omega arith)) in
          let last : f n ≡ 0 = others n (omega arith) (λ (e : n ≡ b). absurd (before (omega (arith, e)))) in
          omega (arith, next, rest, last)
    ]
