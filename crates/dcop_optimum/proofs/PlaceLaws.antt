-- Laws of the place of an assignment, which counts the assignments in lexicographic order.
use Rattle.std.proofs.Common.{◌≡◌, ℕ, ◌*◌, ◌<◌, ◌≤◌, ◌⊎◌, List, [], ◌∷◌, length, replicate, refl, ap, inl, inr, arith, All}
use Rattle.std.proofs.lemmas.Bool.{cases_order}
use Rattle.std.proofs.lemmas.Nat.{mul-add-lt, same_from_place}
use Rattle.std.proofs.lemmas.List.Elements.{All-head, All-tail}
use Rattle.dcop_base.specs.Table.{product, cell_place, AreWithin}
use Rattle.dcop_base.proofs.TableLaws.{cell_place-lt}
use Rattle.dcop_optimum.specs.Optimum.{IsBefore}

-- what holds at the empty list holds at each list within no sizes
pub within_none : (P : List ℕ → Type 0) → P [] → (xs : List ℕ) → AreWithin [] xs → P xs
within_none P h [] within = h
within_none P h (x ∷ xs) within = absurd within

-- what holds at each first value with each rest holds at each list within the sizes
pub within_some : (s : ℕ) (ss : List ℕ) (P : List ℕ → Type 0) → ((x : ℕ) (xs : List ℕ) → x < s → AreWithin ss xs → P (x ∷ xs)) → (xs : List ℕ) → AreWithin (s ∷ ss) xs → P xs
within_some s ss P h [] within = absurd within
within_some s ss P h (x ∷ xs) within = h x xs within.0 within.1

-- the parts of lists that are within their sizes
pub within_parts : (sizes values : List ℕ) (s : ℕ) (ss : List ℕ) (v : ℕ) (vs : List ℕ) → AreWithin sizes values → sizes ≡ s ∷ ss → values ≡ v ∷ vs → (v < s) × AreWithin ss vs
within_parts sizes values s ss v vs within sizes_is values_is = rw (sizes_is, values_is) at within

-- an assignment before another one has a lower place
pub place_before : (ss xs ys : List ℕ) → AreWithin ss xs → AreWithin ss ys → IsBefore xs ys → cell_place ss xs < cell_place ss ys
place_before [] [] [] within within' before = absurd before
place_before [] [] (y ∷ ys) within within' before = absurd within'
place_before [] (x ∷ xs) ys within within' before = absurd within
place_before (s ∷ ss) [] ys within within' before = absurd within
place_before (s ∷ ss) (x ∷ xs) [] within within' before = absurd within'
place_before (s ∷ ss) (x ∷ xs) (y ∷ ys) within within' before =
    elim before [
      | inl lower ↦
          let rest = cell_place-lt ss xs within.1 in
          let rows = mul-add-lt x (product ss) (cell_place ss xs) y lower rest in
          omega arith
      | inr same ↦
          let rest = place_before ss xs ys within.1 within'.1 same.1 in
          let rows = ap (λ n. n * product ss) same.0 in
          omega arith
    ]

-- assignments at one place are one
pub place_same : (ss xs ys : List ℕ) → AreWithin ss xs → AreWithin ss ys → cell_place ss xs ≡ cell_place ss ys → xs ≡ ys
place_same [] [] [] within within' e = refl
place_same [] [] (y ∷ ys) within within' e = absurd within'
place_same [] (x ∷ xs) ys within within' e = absurd within
place_same (s ∷ ss) [] ys within within' e = absurd within
place_same (s ∷ ss) (x ∷ xs) [] within within' e = absurd within'
place_same (s ∷ ss) (x ∷ xs) (y ∷ ys) within within' e =
    let parts = same_from_place x (cell_place ss xs) y (cell_place ss ys) (product ss) (cell_place-lt ss xs within.1) (cell_place-lt ss ys within'.1) e in
    let rest = place_same ss xs ys within.1 within'.1 parts.1 in
    cc (parts.0)

-- of two lists of one length, one stands before the other unless they are the same
pub before_cases : (xs ys : List ℕ) → length xs ≡ length ys → (xs ≡ ys) ⊎ (IsBefore xs ys ⊎ IsBefore ys xs)
before_cases [] [] e = inl refl
before_cases [] (y ∷ ys) e = absurd (omega (arith, e))
before_cases (x ∷ xs) [] e = absurd (omega (arith, e))
before_cases (x ∷ xs) (y ∷ ys) e =
    let rest = before_cases xs ys (omega (arith, e)) in
    elim (cases_order x y) [
      | inl same ↦ elim rest [
        | inl same_rest ↦ inl (cc)
        | inr orders ↦ elim orders [
          | inl before ↦ inr (inl (inr (same, before)))
          | inr before ↦ inr (inr (inr (cc, before)))
        ]
      ]
      | inr differ ↦ elim differ [
        | inl lower ↦ inr (inl (inl lower))
        | inr lower ↦ inr (inr (inl lower))
      ]
    ]

-- zeros are within sizes that are at least 1
pub zeros_within : (ss : List ℕ) → All (λ s. 1 ≤ s) ss → AreWithin ss (replicate (length ss) 0)
zeros_within [] h = tt
zeros_within (s ∷ ss) h =
    let some : 1 ≤ s = All-head (λ s. 1 ≤ s) s ss h in
    (omega arith, zeros_within ss (All-tail (λ s. 1 ≤ s) s ss h))

-- zeros stand at place 0
pub place-zeros : (ss : List ℕ) → cell_place ss (replicate (length ss) 0) ≡ 0
place-zeros [] = refl
place-zeros (s ∷ ss) = omega (arith, place-zeros ss)
