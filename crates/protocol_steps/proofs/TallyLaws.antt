-- Sums over the numbers below n, and what changes them.
use Rattle.std.proofs.Common.{◌≡◌, ℕ, zero, suc, ◌+◌, ◌<◌, Bool, if◌then◌else◌, List, [], ◌∷◌, ◌++◌, Some, refl, sym, ap, ap₂, subst, ◌∙◌, inl, inr, arith}
use Rattle.std.specs.List.{count_by, sum_by, flat_map, range_with_len, slice_get, slice_set}
use Rattle.std.proofs.lemmas.Bool.{cases_eq}
use Rattle.std.proofs.lemmas.Option.{same_Some, none-some}
use Rattle.std.proofs.lemmas.List.{append-nil}
use Rattle.std.proofs.lemmas.List.Concat.{flat_map-append}
use Rattle.std.proofs.lemmas.List.Sums.{sum_by-append, sum_by-cons}
use Rattle.pseudotree.proofs.OrderLaws.{range_more}

-- the sum of f over the numbers below n
abbrev pub tally : (ℕ → ℕ) → ℕ → ℕ
tally f zero = 0
tally f (suc n) = tally f n + f n

pub tally_same : (f g : ℕ → ℕ) (n : ℕ) → ((i : ℕ) → i < n → f i ≡ g i) → tally f n ≡ tally g n
tally_same f g zero same = refl
tally_same f g (suc n) same =
    let rest = tally_same f g n (λ i lt. same i (omega (arith, lt))) in
    let last = same n (omega arith) in omega (arith, rest, last)

-- one number gives more
pub tally_more : (f g : ℕ → ℕ) (n a c : ℕ) → a < n → g a ≡ f a + c → ((i : ℕ) → (i ≡ a → ⊥) → g i ≡ f i) → tally g n ≡ tally f n + c
tally_more f g zero a c lt here others = absurd (omega (arith, lt))
tally_more f g (suc n) a c lt here others = elim (cases_eq a n) [
  | inl same ↦
      let rest = tally_same g f n (λ i below. others i (λ e. omega (arith, e, same, below))) in
      let last : g n ≡ f n + c = subst (λ (k : ℕ). g k ≡ f k + c) same here in omega (arith, rest, last)
  | inr apart ↦
      let rest = tally_more f g n a c (omega (arith, lt, apart)) here others in
      let last = others n (λ e. apart (sym e)) in omega (arith, rest, last)
]

-- the same over pairs, of which one gives more
pub tally_pair : (f g : ℕ → ℕ → ℕ) (n a b c : ℕ) → a < n → b < n → g a b ≡ f a b + c → ((i j : ℕ) → ((i ≡ a) × (j ≡ b) → ⊥) → g i j ≡ f i j)
    → tally (λ i. tally (g i) n) n ≡ tally (λ i. tally (f i) n) n + c
tally_pair f g n a b c la lb here others =
    tally_more (λ i. tally (f i) n) (λ i. tally (g i) n) n a c la
    (tally_more (f a) (g a) n b c lb here (λ j ne. others a j (λ q. ne q.1)))
    (λ i ne. tally_same (g i) (f i) n (λ j lt. others i j (λ q. ne q.0)))

module _ {X : Type 0} (test : X → Bool) where
  pub count-flat : (f : ℕ → List X) (n : ℕ) → count_by test (flat_map f (range_with_len 0 n)) ≡ tally (λ i. count_by test (f i)) n
  count-flat f zero = refl
  count-flat f (suc n) =
      let at : 0 + n ≡ n = omega arith in
      ap (λ (xs : List ℕ). count_by test (flat_map f xs)) (range_more 0 n ∙ ap (λ (k : ℕ). range_with_len 0 n ++ (k ∷ [])) at)
      ∙ ap (λ (xs : List X). count_by test xs) (flat_map-append f (range_with_len 0 n) (n ∷ []))
      ∙ sum_by-append (λ (x : X). if test x then 1 else 0) (flat_map f (range_with_len 0 n)) (f n ++ [])
      ∙ ap₂ (λ (a : ℕ) (b : ℕ). a + b) (count-flat f n) (ap (λ (xs : List X). count_by test xs) (append-nil (f n)))

-- one element of a list was set, and counts more
pub sum-set : {X : Type 0} (f : X → ℕ) (xs : List X) (k c : ℕ) (x y : X) → slice_get xs k ≡ Some x → f y ≡ f x + c → sum_by f (slice_set xs k y) ≡ sum_by f xs + c
sum-set f [] k c x y h more = absurd (none-some x h)
sum-set f (z ∷ xs) zero c x y h more =
    let same : f z ≡ f x = ap f (same_Some z x h) in
    omega (arith, sum_by-cons f y xs, sum_by-cons f z xs, same, more)
sum-set f (z ∷ xs) (suc k) c x y h more =
    omega (arith, sum_by-cons f z (slice_set xs k y), sum_by-cons f z xs, sum-set f xs k c x y h more)
