-- The value names of a variable, by its place.
use Rattle.std.proofs.Common.{◌≡◌, ℕ, ◌<◌, ◌≤◌, zero, suc, true, List, [], ◌∷◌, length, get_or, refl, arith, subst, sym}
use Rattle.std.specs.Prelude.{◌⊎◌}
use Rattle.std.proofs.Common.{inl, inr}
use Rattle.std.specs.List.{AllZip, All, list_all}
use Rattle.problem_text.specs.Name.{is_name}
use Rattle.problem_text.specs.File.{AreLabels}

-- an element of a list, whatever stands for none
pub get-same : {X : Type 0} (xs : List X) (k : ℕ) (d e : X) → k < length xs → get_or xs k d ≡ get_or xs k e
get-same [] k d e h = absurd (omega arith)
get-same (x ∷ xs) zero d e h = refl
get-same (x ∷ xs) (suc k) d e h = get-same xs k d e (omega arith)

-- the value names at a place fit the size there
pub labels-at : (sizes : List ℕ) (labels : List (List (List ℕ))) (k d : ℕ) (e : List (List ℕ)) → AllZip AreLabels sizes labels → k < length labels → AreLabels (get_or sizes k d) (get_or labels k e)
labels-at [] [] k d e all h = absurd (omega arith)
labels-at [] (l ∷ ls) k d e all h = absurd all
labels-at (s ∷ ss) [] k d e all h = absurd all
labels-at (s ∷ ss) (l ∷ ls) zero d e all h = all.0
labels-at (s ∷ ss) (l ∷ ls) (suc k) d e all h = labels-at ss ls k d e all.1 (omega arith)

-- there are no more value names than values
pub labels-few : (size : ℕ) (labels : List (List ℕ)) → AreLabels size labels → size ≤ 1024 → length labels ≤ 1024
labels-few size labels fit small = step fit.many
  where
    step : (labels ≡ []) ⊎ (length labels ≡ size) → length labels ≤ 1024
    step (inl e) = rw e (omega arith)
    step (inr e) = omega (arith, e, small)

-- the value names at a place, as they were read there
pub labels-here : (sizes : List ℕ) (labels : List (List (List ℕ))) (k : ℕ) (here : List (List ℕ)) → AllZip AreLabels sizes labels → All (λ s. s ≤ 1024) sizes → k < length labels → k < length sizes → here ≡ get_or labels k here → (length here ≤ 1024) × (list_all is_name here ≡ true)
labels-here sizes labels k here all small in-labels in-sizes is =
    let fit = subst (λ (ls : List (List ℕ)). AreLabels (get_or sizes k 0) ls) (sym is) (labels-at sizes labels k 0 here all in-labels) in
    (labels-few (get_or sizes k 0) here fit (small k 0 in-sizes), fit.names)
