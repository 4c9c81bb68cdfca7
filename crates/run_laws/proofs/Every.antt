-- Properties of all elements of a list, by recursion.
use Rattle.std.proofs.Common.{◌≡◌, ℕ, zero, suc, arith, Bool, true, false, cond, List, [], ◌∷◌, ◌++◌, map, take, drop, refl, All}
use Rattle.std.specs.List.{flat_map, list_all}
use Rattle.std.proofs.lemmas.Bool.{and_parts}

abbrev pub Every : {X : Type 0} → (X → Type 0) → List X → Type 0
Every P [] = Unit {0}
Every P (x ∷ xs) = P x × Every P xs

module _ {X : Type 0} (P : X → Type 0) where
  pub every_append : (xs ys : List X) → Every P xs → Every P ys → Every P (xs ++ ys)
  every_append [] ys a b = b
  every_append (x ∷ xs) ys a b = (a.0, every_append xs ys a.1 b)

  pub every_split : (xs ys : List X) → Every P (xs ++ ys) → Every P xs × Every P ys
  every_split [] ys h = (tt, h)
  every_split (x ∷ xs) ys h = let rest = every_split xs ys h.1 in ((h.0, rest.0), rest.1)

  pub every_take : (n : ℕ) (xs : List X) → Every P xs → Every P (take n xs)
  every_take zero xs a = tt
  every_take (suc n) [] a = tt
  every_take (suc n) (x ∷ xs) a = (a.0, every_take n xs a.1)

  pub every_drop : (n : ℕ) (xs : List X) → Every P xs → Every P (drop n xs)
  every_drop zero xs a = a
  every_drop (suc n) [] a = tt
  every_drop (suc n) (x ∷ xs) a = every_drop n xs a.1

  pub every_if : (b : Bool) (xs : List X) → (b ≡ true → Every P xs) → Every P (cond b xs [])
  every_if true xs h = h refl
  every_if false xs h = tt

  at_all : (x : X) (xs : List X) → P x → All P xs → All P (x ∷ xs)
  at_all x xs h rest zero d lt = h
  at_all x xs h rest (suc k) d lt = rest k d (omega (arith, lt))

  pub all_every : (xs : List X) → Every P xs → All P xs
  all_every [] h = λ k d lt. absurd (omega (arith, lt))
  all_every (x ∷ xs) h = at_all x xs h.0 (all_every xs h.1)

module _ {X Y : Type 0} (P : Y → Type 0) where
  pub every_map : (f : X → Y) (xs : List X) → Every (λ x. P (f x)) xs → Every P (map f xs)
  every_map f [] h = tt
  every_map f (x ∷ xs) h = (h.0, every_map f xs h.1)

  pub every_flat_map : (f : X → List Y) (xs : List X) → Every (λ x. Every P (f x)) xs → Every P (flat_map f xs)
  every_flat_map f [] h = tt
  every_flat_map f (x ∷ xs) h = every_append P (f x) (flat_map f xs) h.0 (every_flat_map f xs h.1)

-- from a test of each pair
pub every_pair : (q : ℕ → ℕ → Bool) (P : ℕ × ℕ → Type 0) → ((x : ℕ × ℕ) → q x.0 x.1 ≡ true → P x) → (xs : List (ℕ × ℕ)) → list_all (λ x. q x.0 x.1) xs ≡ true → Every P xs
every_pair q P f [] all = tt
every_pair q P f (x ∷ xs) all =
    let parts = and_parts (q x.0 x.1) (list_all (λ y. q y.0 y.1) xs) all in
    (f x parts.0, every_pair q P f xs parts.1)

pub every_from : {X : Type 0} (P : X → Type 0) (xs : List X) → ((x : X) → P x) → Every P xs
every_from P [] h = tt
every_from P (x ∷ xs) h = (h x, every_from P xs h)

pub every_then : {X : Type 0} (P Q : X → Type 0) (xs : List X) → ((x : X) → P x → Q x) → Every P xs → Every Q xs
every_then P Q [] f h = tt
every_then P Q (x ∷ xs) f h = (f x h.0, every_then P Q xs f h.1)
