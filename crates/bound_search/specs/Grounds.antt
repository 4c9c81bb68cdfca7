-- What a search is given.
use Rattle.std.specs.Prelude.{◌≡◌, ℕ, ◌+◌, ◌*◌, ◌<◌, ◌≤◌, List, length, map, slice_index}
use Rattle.std.specs.List.{All}
use Rattle.dcop_base.specs.Limits.{variable_limit, size_limit}
use Rattle.dcop_base.specs.Table.{CostTable, AreWithin, values_at}
use Rattle.dcop_base.specs.Values.{cost_with, with_own}
use Rattle.shared_costs.specs.Values.{AreValues}
use Rattle.shared_costs.specs.Tables.{AreDepths, depths_cost}
use Rattle.bucket_bounds.specs.Bounds.{AreBucketBounds, tables_in}
use Rattle.bucket_bounds.specs.declared.bucket.Bucket.{Bucket}

-- the scaled cost of these values of all variables
abbrev pub scaled_cost : List Bucket → (ℕ → ℕ) → ℕ
scaled_cost buckets value = depths_cost (tables_in buckets) value

-- buckets of variables with these sizes, whose tables sum to scaled costs, and bounds on them
pub record AreGrounds (sizes : List ℕ) (scale : ℕ) (buckets : List Bucket) : Type 0 where
  pub depths : AreDepths sizes (tables_in buckets)
  pub bounds : AreBucketBounds sizes (tables_in buckets) buckets
  pub scaled : 1 ≤ scale
  pub whole : (value : ℕ → ℕ) → AreValues sizes value → (cost : ℕ) × (scaled_cost buckets value ≡ scale * cost)
  pub some : 1 ≤ length sizes
  pub few : length sizes ≤ variable_limit
  pub sized : All (λ s. (1 ≤ s) × (s ≤ size_limit)) sizes

-- a table has a cell at these values
pub record HasCell (values : List ℕ) (t : CostTable) : Type 0 where
  pub entries : All (λ v. v < length values) t.scope
  pub within : AreWithin t.sizes (values_at t.scope values)

-- a table has a cell at each of the first `count` values of a variable, when the others have these values
pub record HasRow (values : List ℕ) (var : ℕ) (count : ℕ) (t : CostTable) : Type 0 where
  pub entries : All (λ v. v < length values) t.scope
  pub each : (d : ℕ) → d < count → AreWithin t.sizes (map (with_own var d (slice_index values)) t.scope)

-- to each entry of the row of a variable was added what tables cost at its value, when the others have these values
abbrev pub HasRowAdded : List ℕ → ℕ → List CostTable → List ℕ → List ℕ → Type 0
HasRowAdded values var ts old new = (d : ℕ) → d < length old → slice_index new d ≡ slice_index old d + cost_with ts (with_own var d (slice_index values))
