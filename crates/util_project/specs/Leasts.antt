-- The least cells over the runs of blocks of cells.
use Rattle.std.specs.Prelude.{◌≡◌, ℕ, ◌+◌, ◌*◌, ◌<◌, ◌≤◌, List, length, slice_index}
use Rattle.std.specs.List.{All, remove, insert}
use Rattle.dcop_base.specs.Table.{product, AreWithin, cell_place}
use Rattle.util_project.specs.Projection.{IsLeast}

-- `count` cells were appended to the old ones: the i-th is the least of the `size` cells of a block that are at i and each `stride` further on
pub record AppendsLeasts (block : List ℕ) (size stride count : ℕ) (old new : List ℕ) : Type 0 where
  pub long : length new ≡ length old + count
  pub same : (k : ℕ) → k < length old → slice_index new k ≡ slice_index old k
  pub each : (i : ℕ) → i < count → IsLeast (λ d. slice_index block (d * stride + i)) size (slice_index new (length old + i))

-- for each of `blocks` blocks, which have `size` runs of `inner` cells each, the cell-wise least of its runs; these follow one another, and none exceeds a bound on all cells
pub record AreLeastRuns (cells : List ℕ) (blocks size inner : ℕ) (kept : List ℕ) : Type 0 where
  pub count : length kept ≡ blocks * inner
  pub each : (b i : ℕ) → b < blocks → i < inner → IsLeast (λ d. slice_index cells ((b * size + d) * inner + i)) size (slice_index kept (b * inner + i))
  pub within : (bound : ℕ) → All (λ c. c ≤ bound) cells → All (λ c. c ≤ bound) kept

-- the least cells of a table of these sizes over the variable at this place, each at the place given by the values of the other variables; none exceeds a bound on all cells
pub record AreLeastsAt (sizes cells : List ℕ) (place : ℕ) (kept : List ℕ) : Type 0 where
  pub count : length kept ≡ product (remove sizes place)
  pub each : (others : List ℕ) → AreWithin (remove sizes place) others → IsLeast (λ d. slice_index cells (cell_place sizes (insert others place d))) (slice_index sizes place) (slice_index kept (cell_place (remove sizes place) others))
  pub within : (bound : ℕ) → All (λ c. c ≤ bound) cells → All (λ c. c ≤ bound) kept
