-- What a list has at the places of an order.
use Rattle.std.proofs.Common.{◌≡◌, ℕ, ◌<◌, List, [], ◌∷◌, length, get_or, map, refl, ap, ◌∙◌}
use Rattle.std.specs.List.{All, slice_index}
use Rattle.std.proofs.lemmas.List.{get_or-map}
use Rattle.std.proofs.lemmas.List.Elements.{All-head, All-tail}

-- what the list has at places of an order's reading is what it has at the variables there
pub read_at : {X : Type 0} (xs : List X) (d : X) (order scope : List ℕ) → All (λ v. v < length order) scope
    → map (λ v. get_or (map (λ u. get_or xs u d) order) v d) scope ≡ map (λ v. get_or xs v d) (map (slice_index order) scope)
read_at xs d order [] within = refl
read_at {X} xs d order (v ∷ vs) within =
    ap (λ (x : X). x ∷ map (λ w. get_or (map (λ u. get_or xs u d) order) w d) vs) (get_or-map (λ u. get_or xs u d) order v 0 d (All-head (λ (u : ℕ). u < length order) v vs within))
    ∙ ap (λ (ys : List X). get_or xs (slice_index order v) d ∷ ys) (read_at xs d order vs (All-tail (λ (u : ℕ). u < length order) v vs within))
