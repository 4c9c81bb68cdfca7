-- Bounds that may be none, which is the largest, and leasts of bounds.
use Rattle.std.proofs.Common.{◌≡◌, ℕ, zero, suc, ◌+◌, ◌≤◌, ◌⊎◌, Bool, true, false, cond, nat_lt, Option, Some, None, refl, ap, subst, inl, inr, arith}
use Rattle.std.proofs.lemmas.Bool.{cases_lt, cond_both, ltb-true, ltb-false, leb-true, true≢false, false≢true}
use Rattle.std.proofs.lemmas.Option.{same_Some}
use Rattle.adopt_context.specs.Bounds.{cap, plus_bound, capped, is_below, lowest}
use Rattle.adopt_context.specs.Allot.{lower_to}
use Rattle.adopt_context.specs.Merge.{lesser, is_at_most}
use Rattle.dcop_optimum.specs.Enclosing.{IsAtMost}

pub at_most_below : (x y : ℕ) (u : Option ℕ) → x ≤ y → IsAtMost y u → IsAtMost x u
at_most_below x y None le h = tt
at_most_below x y (Some u) le h = omega (arith, le, h)

pub lowered_over : (x l : ℕ) (u : Option ℕ) → l ≤ x → IsAtMost l u → l ≤ lower_to x u
lowered_over x l None a b = a
lowered_over x l (Some u) a b = omega (arith, a, b)

pub lowered_at_most : (x : ℕ) (u : Option ℕ) → IsAtMost (lower_to x u) u
lowered_at_most x None = tt
lowered_at_most x (Some u) = omega arith

pub lowered_below : (x : ℕ) (u : Option ℕ) → lower_to x u ≤ x
lowered_below x None = omega arith
lowered_below x (Some u) = omega arith

pub lowered_same : (x : ℕ) (u : Option ℕ) → IsAtMost x u → lower_to x u ≡ x
lowered_same x None h = refl
lowered_same x (Some u) h = omega (arith, h)

-- what is at most two bounds is at most the lesser
pub lesser_over : (x : ℕ) (u w : Option ℕ) → IsAtMost x u → IsAtMost x w → IsAtMost x (lesser u w)
lesser_over x None w a b = b
lesser_over x (Some u) None a b = a
lesser_over x (Some u) (Some w) a b = omega (arith, a, b)

-- the lesser of two bounds is one of them
pub lesser_is : (x : ℕ) (u w : Option ℕ) → lesser u w ≡ Some x → (u ≡ Some x) ⊎ (w ≡ Some x)
lesser_is x None w h = inr h
lesser_is x (Some u) None h = inl h
lesser_is x (Some u) (Some w) h =
    elim (cases_lt u w) [
      | inl low ↦ inl (ap (λ (k : ℕ). Some k) (let e = same_Some (lower_to u (Some w)) x h in omega (arith, e, low)))
      | inr high ↦ inr (ap (λ (k : ℕ). Some k) (let e = same_Some (lower_to u (Some w)) x h in omega (arith, e, high)))
    ]

pub at_most_from : (l : ℕ) (u : Option ℕ) → is_at_most l u ≡ true → IsAtMost l u
at_most_from l None h = tt
at_most_from l (Some u) h = leb-true l u h

-- numbers at most two bounds are together at most their sum
pub plus_over : (x y : ℕ) (u w : Option ℕ) → IsAtMost x u → IsAtMost y w → IsAtMost (x + y) (plus_bound u w)
plus_over x y None w a b = tt
plus_over x y (Some u) None a b = tt
plus_over x y (Some u) (Some w) a b = omega (arith, a, b)

pub capped_over : (x : ℕ) (u : Option ℕ) → IsAtMost x u → IsAtMost (cap x) (capped u)
capped_over x None h = tt
capped_over x (Some u) h = omega (arith, h)

-- an own cost that may not be known yet
pub known_over : (b : Bool) (x : ℕ) → IsAtMost x (cond b (Some x) None)
known_over true x = omega arith
known_over false x = tt

-- the lowest of the numbers is one of them
pub lowest_within : {X : Type 0} (less : X → X → Bool) (f : ℕ → X) (n : ℕ) → lowest less f n ≤ n
lowest_within less f zero = omega arith
lowest_within less f (suc n) =
    let before = lowest_within less f n in
    cond_both (less (f (suc n)) (f (lowest less f n))) (suc n) (lowest less f n) (λ k. k ≤ suc n) (λ e. omega arith) (λ e. omega (arith, before))

same_le : (f : ℕ → ℕ) (a b : ℕ) → a ≡ b → f a ≤ f b
same_le f a b e = subst (λ (k : ℕ). f a ≤ f k) e (omega arith)

at_same : (x : ℕ) (f : ℕ → Option ℕ) (a b : ℕ) → a ≡ b → IsAtMost x (f a) → IsAtMost x (f b)
at_same x f a b e h = subst (λ (k : ℕ). IsAtMost x (f k)) e h

-- the least number
pub lowest_least : (f : ℕ → ℕ) (n d : ℕ) → d ≤ n → f (lowest nat_lt f n) ≤ f d
lowest_least f zero d le = same_le f 0 d (omega (arith, le))
lowest_least f (suc n) d le =
    let m : ℕ = lowest nat_lt f n in
    cond_both (nat_lt (f (suc n)) (f m)) (suc n) m (λ k. f k ≤ f d)
    (λ less.
    let below = ltb-true (f (suc n)) (f m) less in
    elim (cases_lt n d) [
      | inl last ↦ same_le f (suc n) d (omega (arith, le, last))
      | inr inside ↦ let before = lowest_least f n d inside in omega (arith, before, below)
    ])
    (λ not_less.
    let over = ltb-false (f (suc n)) (f m) not_less in
    elim (cases_lt n d) [
      | inl last ↦ let same = same_le f (suc n) d (omega (arith, le, last)) in omega (arith, same, over)
      | inr inside ↦ lowest_least f n d inside
    ])

below_over : (x : ℕ) (a b : Option ℕ) → is_below a b ≡ true → IsAtMost x a → IsAtMost x b
below_over x None b less h = absurd (false≢true less)
below_over x (Some a) None less h = tt
below_over x (Some a) (Some b) less h = let lt = ltb-true a b less in omega (arith, lt, h)

not_below_over : (x : ℕ) (a b : Option ℕ) → is_below a b ≡ false → IsAtMost x b → IsAtMost x a
not_below_over x None b less h = tt
not_below_over x (Some a) None less h = absurd (true≢false less)
not_below_over x (Some a) (Some b) less h = let le = ltb-false a b less in omega (arith, le, h)

-- the least bound, by what is at most it
pub lowest_over : (x : ℕ) (f : ℕ → Option ℕ) (n d : ℕ) → d ≤ n → IsAtMost x (f (lowest is_below f n)) → IsAtMost x (f d)
lowest_over x f zero d le h = at_same x f 0 d (omega (arith, le)) h
lowest_over x f (suc n) d le h =
    let m : ℕ = lowest is_below f n in
    cond_both (is_below (f (suc n)) (f m)) (suc n) m (λ k. IsAtMost x (f k) → IsAtMost x (f d))
    (λ less g.
    elim (cases_lt n d) [
      | inl last ↦ at_same x f (suc n) d (omega (arith, le, last)) g
      | inr inside ↦ lowest_over x f n d inside (below_over x (f (suc n)) (f m) less g)
    ])
    (λ not_less g.
    elim (cases_lt n d) [
      | inl last ↦ at_same x f (suc n) d (omega (arith, le, last)) (not_below_over x (f (suc n)) (f m) not_less g)
      | inr inside ↦ lowest_over x f n d inside g
    ])
    h
