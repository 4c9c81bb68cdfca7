-- The cell at which an assignment stands in a table.
use Rattle.std.proofs.Common.{ℕ, ◌<◌, List, [], ◌∷◌, length, get_or, map, All}
use Rattle.std.proofs.lemmas.List.Elements.{All-head, All-tail, AllZip-get_or}
use Rattle.dcop_base.specs.Table.{AreWithin, values_at}

-- the sizes that variables of these sizes give to a scope
abbrev pub sizes_at : List ℕ → List ℕ → List ℕ
sizes_at sizes scope = map (λ v. get_or sizes v 0) scope

-- an assignment gives a scope values below its sizes
pub scope_within : (sizes values scope : List ℕ) → AreWithin sizes values → All (λ v. v < length sizes) scope → AreWithin (sizes_at sizes scope) (values_at scope values)
scope_within sizes values [] within named = tt
scope_within sizes values (v ∷ vs) within named = (
  AllZip-get_or (λ s d. d < s) sizes values v 0 0 within (All-head (λ u. u < length sizes) v vs named),
  scope_within sizes values vs within (All-tail (λ u. u < length sizes) v vs named),
)
