-- What tables cost at least at each value of a variable, and tables after such costs were moved.
use Rattle.std.specs.Prelude.{◌≡◌, ℕ, suc, ◌<◌, ◌≤◌, List, length, drop, slice_index}
use Rattle.std.specs.List.{All}
use Rattle.dcop_base.specs.Limits.{amount_limit}
use Rattle.dcop_base.specs.Table.{CostTable, IsTable, product}
use Rattle.cost_table.specs.Cells.{place_in}
use Rattle.shared_costs.specs.Runs.{digit, IsShifted}

-- the number of cells of a table over the variables after this place
abbrev pub cells_behind : List ℕ → ℕ → ℕ
cells_behind sizes place = product (drop (suc place) sizes)

-- an amount for each value of the variable at this place, at most each cell at that value
pub record AreLowsAt (sizes cells : List ℕ) (place : ℕ) (lows : List ℕ) : Type 0 where
  pub many : length lows ≡ slice_index sizes place
  pub small : All (λ n. n ≤ amount_limit) lows
  pub below : (k : ℕ) → k < length cells → slice_index lows (digit (length lows) (cells_behind sizes place) k) ≤ slice_index cells k

-- an amount for each value of the variable, at most each cell of the table at that value
abbrev pub AreLows : CostTable → ℕ → List ℕ → Type 0
AreLows t var lows = AreLowsAt t.sizes t.cells (place_in t.scope var) lows

-- a whole table; from each cell the low of its value of the variable was taken, and the gain of that value was added
pub record IsMoved (var : ℕ) (lows gains : List ℕ) (old new : CostTable) : Type 0 where
  pub scope : new.scope ≡ old.scope
  pub sizes : new.sizes ≡ old.sizes
  pub whole : IsTable new
  pub cells : IsShifted (cells_behind old.sizes (place_in old.scope var)) lows gains old.cells new.cells
