-- Runs of cells: the cells that a slice keeps of a table.
use Rattle.std.specs.Prelude.{◌≡◌, ℕ, ◌+◌, ◌*◌, ◌<◌, ◌≤◌, List, length, set, slice_index}
use Rattle.std.specs.List.{All, remove, insert}
use Rattle.dcop_base.specs.Table.{CostTable, IsTable, product, AreWithin, cell_place}
use Rattle.cost_table.specs.Cells.{cell_of, IsTableBy}

-- from each of `blocks` blocks, which have `size` runs of `inner` cells each, the run with this number is kept; the kept runs follow one another, and no kept cell exceeds a bound on all cells
pub record AreRuns (cells : List ℕ) (blocks size inner number : ℕ) (kept : List ℕ) : Type 0 where
  pub count : length kept ≡ blocks * inner
  pub each : (b i : ℕ) → b < blocks → i < inner → slice_index kept (b * inner + i) ≡ slice_index cells ((b * size + number) * inner + i)
  pub within : (bound : ℕ) → All (λ c. c ≤ bound) cells → All (λ c. c ≤ bound) kept

-- the cells of a table of these sizes at a value of the variable at this place, each at the place given by the values of the other variables; no kept cell exceeds a bound on all cells
pub record AreCellsAt (sizes cells : List ℕ) (place val : ℕ) (kept : List ℕ) : Type 0 where
  pub count : length kept ≡ product (remove sizes place)
  pub each : (values : List ℕ) → AreWithin (remove sizes place) values → slice_index kept (cell_place (remove sizes place) values) ≡ slice_index cells (cell_place sizes (insert values place val))
  pub within : (bound : ℕ) → All (λ c. c ≤ bound) cells → All (λ c. c ≤ bound) kept

-- there are no more cells than in the original, and none exceeds a bound on the original ones
pub record AreFewer (cells kept : List ℕ) : Type 0 where
  pub count : length kept ≤ length cells
  pub within : (bound : ℕ) → All (λ c. c ≤ bound) cells → All (λ c. c ≤ bound) kept

-- a table after the variable at this place was limited to one value, if the scope has that place
pub record KeepsOne (t : CostTable) (place val : ℕ) (less : CostTable) : Type 0 where
  pub by : IsTableBy t.scope (set t.sizes place 1) (λ values. cell_of t (set values place val)) less
  pub whole : IsTable less
  pub fewer : AreFewer t.cells less.cells
