-- The cells of the table at a place of a list, which may be missing.
use Rattle.std.proofs.Common.{◌≡◌, ℕ, zero, suc, List, [], ◌∷◌, get_or, slice_get, Option, Some, None, refl}
use Rattle.dcop_base.specs.Table.{CostTable}
use Rattle.minimised_problem.specs.Utils.{cells_on}

-- they are those of the table that is there, and none where it is missing or the place is behind the last one
pub cells_got : (tables : List (Option CostTable)) (i : ℕ) → cells_on (slice_get tables i) ≡ cells_on (Some (get_or tables i None))
cells_got [] i = refl
cells_got (t ∷ ts) zero = refl
cells_got (t ∷ ts) (suc i) = cells_got ts i
