-- The values of a report, one by one.
use Rattle.std.proofs.Common.{◌≡◌, ℕ, ◌+◌, ◌<◌, ◌==◌, if◌then◌else◌, List, ◌∷◌, length, drop, get_or, Some, sym, ap, ap₂, ◌∙◌}
use Rattle.std.specs.List.{slice_get}
use Rattle.std.proofs.lemmas.Bool.{cond-true, cond-false, eq-eqb, ne_eqb}
use Rattle.std.proofs.lemmas.List.{drop_more}
use Rattle.std.proofs.lemmas.Option.{slice_get_within, get_or_from_slice_get}
use Rattle.certificate_text.specs.declared.verdict.Differs.TheVariants.{Value}
use Rattle.minimised_problem.specs.Differences.{value_difference}

next_value : (vs ws : List ℕ) (k v w : ℕ) → k < length vs → v ≡ get_or vs k v → slice_get ws k ≡ Some w
    → value_difference k (drop k vs) (drop k ws) ≡ (if v == w then value_difference (k + 1) (drop (k + 1) vs) (drop (k + 1) ws) else Some (Value k))
next_value vs ws k v w lt is there =
    let left : drop k vs ≡ v ∷ drop (k + 1) vs = drop_more vs k v lt ∙ ap (λ (x : ℕ). x ∷ drop (k + 1) vs) (sym is) in
    let right : drop k ws ≡ w ∷ drop (k + 1) ws = drop_more ws k w (slice_get_within ws k w there) ∙ ap (λ (x : ℕ). x ∷ drop (k + 1) ws) (get_or_from_slice_get ws k w w there) in
    ap₂ (λ (xs ys : List ℕ). value_difference k xs ys) left right

pub value_same : (vs ws : List ℕ) (k v w : ℕ) → k < length vs → v ≡ get_or vs k v → slice_get ws k ≡ Some w → v ≡ w
    → value_difference k (drop k vs) (drop k ws) ≡ value_difference (k + 1) (drop (k + 1) vs) (drop (k + 1) ws)
value_same vs ws k v w lt is there same =
    next_value vs ws k v w lt is there ∙ cond-true (v == w) (value_difference (k + 1) (drop (k + 1) vs) (drop (k + 1) ws)) (Some (Value k)) (eq-eqb v w same)

pub value_differs : (vs ws : List ℕ) (k v w : ℕ) → k < length vs → v ≡ get_or vs k v → slice_get ws k ≡ Some w → (v ≡ w → ⊥)
    → value_difference k (drop k vs) (drop k ws) ≡ Some (Value k)
value_differs vs ws k v w lt is there other =
    next_value vs ws k v w lt is there ∙ cond-false (v == w) (value_difference (k + 1) (drop (k + 1) vs) (drop (k + 1) ws)) (Some (Value k)) (ne_eqb v w other)
