-- Costs shared among tables.
use Rattle.std.specs.Prelude.{◌≡◌, ℕ, ◌+◌, ◌-◌, ◌<◌, ◌≤◌, false, List, map, length, slice_index_or}
use Rattle.std.specs.List.{sum_by}
use Rattle.dcop_base.specs.Table.{CostTable, has}
use Rattle.dcop_base.specs.Values.{cell_with, cost_with}
use Rattle.shared_costs.specs.Values.{AreValues}
use Rattle.shared_costs.specs.Tables.{AreTablesOver}
use Rattle.shared_costs.specs.Rows.{table_at}

-- costs were shared: each table has the variables that it had, with their sizes, and at any values the tables have the sum that they had
pub record IsSharing (sizes : List ℕ) (old new : List CostTable) : Type 0 where
  pub scopes : map (λ t. t.scope) new ≡ map (λ t. t.scope) old
  pub tables : AreTablesOver sizes new
  pub sums : (value : ℕ → ℕ) → AreValues sizes value → cost_with new value ≡ cost_with old value

-- an amount of 0 for each value of a variable
abbrev pub no_amounts : ℕ → ℕ
no_amounts a = 0

-- the amounts for the table at this place, one for each value of a variable
abbrev pub amounts_at : List (ℕ → ℕ) → ℕ → ℕ → ℕ
amounts_at amounts k = slice_index_or amounts k no_amounts

-- the least cell of a table at each value of a variable
pub record AreLeastCells (sizes : List ℕ) (var : ℕ) (t : CostTable) (leasts : ℕ → ℕ) : Type 0 where
  pub most : (value : ℕ → ℕ) → AreValues sizes value → leasts (value var) ≤ cell_with t value
  pub attained : (value : ℕ → ℕ) → AreValues sizes value → (other : ℕ → ℕ) × AreValues sizes other × (other var ≡ value var) × (cell_with t other ≡ leasts (value var))

-- one table when a variable is shared: from each cell the table's least cell at the same value of
-- the variable was subtracted, and a new amount for that value, the target, was added; a table that
-- does not name the variable is unchanged
pub record HasShared (sizes : List ℕ) (var : ℕ) (leasts targets : ℕ → ℕ) (old new : CostTable) : Type 0 where
  pub least : AreLeastCells sizes var old leasts
  pub cells : (value : ℕ → ℕ) → AreValues sizes value → cell_with new value ≡ cell_with old value - leasts (value var) + targets (value var)
  pub unnamed : has old.scope var ≡ false → new ≡ old

-- a variable was shared among tables, which keep their scopes: for each of its values the targets of the tables sum to what their least cells sum to
pub record IsShare (sizes : List ℕ) (var : ℕ) (old new : List CostTable) : Type 0 where
  pub scopes : map (λ t. t.scope) new ≡ map (λ t. t.scope) old
  pub tables : AreTablesOver sizes new
  pub leasts : List (ℕ → ℕ)
  pub targets : List (ℕ → ℕ)
  pub gives : length leasts ≡ length old
  pub gets : length targets ≡ length old
  pub shares : (k : ℕ) → k < length old → HasShared sizes var (amounts_at leasts k) (amounts_at targets k) (table_at old k) (table_at new k)
  pub even : (value : ℕ → ℕ) → AreValues sizes value → sum_by (λ f. f (value var)) targets ≡ sum_by (λ f. f (value var)) leasts
