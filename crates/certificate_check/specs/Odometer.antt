-- How the cells of a table are visited: an assignment has the values of one cell after the other.
use Rattle.std.specs.Prelude.{◌≡◌, ◌≢◌, ℕ, ◌+◌, ◌<◌, Bool, true, false, List, map, length, slice_index}
use Rattle.std.specs.List.{All}
use Rattle.dcop_base.specs.Table.{CostTable, AreWithin, product, has, values_at, cell_place}
use Rattle.dcop_base.specs.Problem.{Dcop}
use Rattle.dcop_base.specs.Whole.{IsTableOf}
use Rattle.certificate_text.specs.declared.certificate.Util.{Util}
use Rattle.certificate_text.specs.Fits.{FitsUtil}
use Rattle.minimised_problem.specs.Told.{told}

-- the number of the cell that an assignment selects in a table of this scope
abbrev pub place_of : List ℕ → List ℕ → List ℕ → ℕ
place_of sizes scope values = cell_place (map (slice_index sizes) scope) (values_at scope values)

-- an assignment moves to the next cell, or from the last cell to the first
abbrev pub IsNextPlace : List ℕ → List ℕ → List ℕ → List ℕ → Bool → Type 0
IsNextPlace sizes scope old new true = place_of sizes scope new ≡ place_of sizes scope old + 1
IsNextPlace sizes scope old new false = (place_of sizes scope old + 1 ≡ product (map (slice_index sizes) scope)) × (place_of sizes scope new ≡ 0)

-- an assignment that has the values of cell k of a table for its scope, if the table has that cell,
-- any for its own variable, and 0 for all others
pub record IsAtCell (sizes : List ℕ) (u : Util) (k : ℕ) (values : List ℕ) : Type 0 where
  pub within : AreWithin sizes values
  pub place : k < length u.cells → place_of sizes u.scope values ≡ k
  pub rest : (v : ℕ) → has u.scope v ≡ false → v ≢ u.var → slice_index values v ≡ 0

-- own tables, children's tables and a table that all fit variables of these sizes; the last does
-- not name its own variable
pub record FitTogether (sizes : List ℕ) (own : List CostTable) (children : List Util) (u : Util) : Type 0 where
  pub own_fit : All (IsTableOf sizes) own
  pub children_fit : All (FitsUtil sizes) children
  pub util_fits : FitsUtil sizes u
  pub apart : has u.scope u.var ≡ false

-- no variable's table names the variable itself in its scope
abbrev pub NamesNoneItself : Dcop → List Util → Type 0
NamesNoneItself p utils = (i : ℕ) → i < length p.sizes → has (told utils i).scope i ≡ false
