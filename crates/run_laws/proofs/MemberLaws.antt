-- Members of lists of numbers, and lists without a repeated one.
use Rattle.std.proofs.Common.{◌≡◌, ℕ, ◌<◌, ◌≤◌, Bool, true, false, ◌||◌, eqb, List, [], ◌∷◌, ◌++◌, length, refl, sym, ap₂, ◌∙◌, inl, inr, arith}
use Rattle.std.specs.Prelude.{◌⊎◌}
use Rattle.std.specs.List.{list_any, AllByRecursion, IsDistinct}
use Rattle.std.proofs.lemmas.Bool.{cases_Bool, or_cases, or_left, or_right, or_parts, eqb-true, eq-eqb}
use Rattle.std.proofs.lemmas.List.{length-append}
use Rattle.std.proofs.lemmas.List.Folds.{list_any-append}
use Rattle.std.proofs.lemmas.Map.Keys.{IsDistinct-cons}
use Rattle.std.proofs.lemmas.Map.Steps.{length-le_from_distinct_below}
use Rattle.dcop_base.specs.Table.{has, has_repeat}
use Rattle.dcop_base.proofs.JointLaws.{eqb-swap}

pub has-append : (xs ys : List ℕ) (u : ℕ) → has (xs ++ ys) u ≡ (has xs u || has ys u)
has-append xs ys u = list_any-append (λ (y : ℕ). eqb y u) xs ys

pub in_left : (xs ys : List ℕ) (u : ℕ) → has xs u ≡ true → has (xs ++ ys) u ≡ true
in_left xs ys u h = has-append xs ys u ∙ or_left (has xs u) (has ys u) h

pub in_right : (xs ys : List ℕ) (u : ℕ) → has ys u ≡ true → has (xs ++ ys) u ≡ true
in_right xs ys u h = has-append xs ys u ∙ or_right (has xs u) (has ys u) h

pub in_cases : (xs ys : List ℕ) (u : ℕ) → has (xs ++ ys) u ≡ true → (has xs u ≡ true) ⊎ (has ys u ≡ true)
in_cases xs ys u h = or_cases (has xs u) (has ys u) (sym (has-append xs ys u) ∙ h)

pub in_one : (v : ℕ) → has (v ∷ []) v ≡ true
in_one v = or_left (eqb v v) false (eq-eqb v v refl)

pub only : (v u : ℕ) → has (v ∷ []) u ≡ true → v ≡ u
only v u h = elim (or_cases (eqb v u) false h) [ inl e ↦ eqb-true v u e | inr none ↦ absurd (cc) ]

pub or_none : (a b : Bool) → a ≡ false → b ≡ false → (a || b) ≡ false
or_none true b h k = h
or_none false b h k = k

pub out_parts : (xs ys : List ℕ) (u : ℕ) → has (xs ++ ys) u ≡ false → (has xs u ≡ false) × (has ys u ≡ false)
out_parts xs ys u h = or_parts (has xs u) (has ys u) (sym (has-append xs ys u) ∙ h)

pub out_both : (xs ys : List ℕ) (u : ℕ) → has xs u ≡ false → has ys u ≡ false → has (xs ++ ys) u ≡ false
out_both xs ys u h k = has-append xs ys u ∙ or_none (has xs u) (has ys u) h k

-- one more number, which is not there yet
pub repeat-push : (xs : List ℕ) (w : ℕ) → has_repeat xs ≡ false → has xs w ≡ false → has_repeat (xs ++ (w ∷ [])) ≡ false
repeat-push [] w h o = refl
repeat-push (x ∷ xs) w h o =
    let parts = or_parts (has xs x) (has_repeat xs) h in
    let apart = or_parts (eqb x w) (has xs w) o in
    or_none (has (xs ++ (w ∷ [])) x) (has_repeat (xs ++ (w ∷ [])))
    (out_both xs (w ∷ []) x parts.0 (or_none (eqb w x) false (eqb-swap w x ∙ apart.0) refl))
    (repeat-push xs w parts.1 apart.1)

pub either_way : (xs : List ℕ) (q : ℕ) → list_any (eqb q) xs ≡ has xs q
either_way [] q = refl
either_way (x ∷ xs) q = ap₂ (λ (a : Bool) (b : Bool). a || b) (eqb-swap q x) (either_way xs q)

apart_from : (xs : List ℕ) (x : ℕ) → has xs x ≡ false → AllByRecursion (λ y. eqb x y ≡ false) xs
apart_from [] x h = tt
apart_from (y ∷ ys) x h = let parts = or_parts (eqb y x) (has ys x) h in (eqb-swap x y ∙ parts.0, apart_from ys x parts.1)

distinct : (xs : List ℕ) → has_repeat xs ≡ false → IsDistinct eqb xs
unfolding IsDistinct
distinct [] h = tt
distinct (x ∷ xs) h =
    let parts = or_parts (has xs x) (has_repeat xs) h in
    IsDistinct-cons eqb x xs (apart_from xs x parts.0) (distinct xs parts.1)

-- distinct numbers below n are at most n
pub at_most : (xs : List ℕ) (n : ℕ) → has_repeat xs ≡ false → ((u : ℕ) → has xs u ≡ true → u < n) → length xs ≤ n
at_most xs n h below = length-le_from_distinct_below xs n (distinct xs h) (λ q m. below q (sym (either_way xs q) ∙ m))

-- n distinct numbers below n are all of them
pub all_there : (xs : List ℕ) (n : ℕ) → has_repeat xs ≡ false → ((u : ℕ) → has xs u ≡ true → u < n) → n ≤ length xs → (u : ℕ) → u < n → has xs u ≡ true
all_there xs n h below many u lt = elim (cases_Bool (has xs u)) [
  | inl there ↦ there
  | inr free ↦
      let few = at_most (xs ++ (u ∷ [])) n (repeat-push xs u h free)
      (λ w m. elim (in_cases xs (u ∷ []) w m) [ inl old ↦ below w old | inr new ↦ let same = only u w new in omega arith ]) in
      absurd (omega (arith, few, many, length-append xs (u ∷ [])))
]
