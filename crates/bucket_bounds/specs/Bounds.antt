-- Bounds of each depth, by what the bucket of each variable sends.
use Rattle.std.specs.Prelude.{◌≡◌, ℕ, ◌+◌, ◌<◌, ◌≤◌, not, List, [], ◌∷◌, ◌++◌, map, length, drop}
use Rattle.std.specs.List.{All, sum_by, filter, slice_index_or}
use Rattle.dcop_base.specs.Table.{CostTable, has}
use Rattle.dcop_base.specs.Faults.{cell_count}
use Rattle.dcop_base.specs.Values.{cost_with}
use Rattle.shared_costs.specs.Values.{AreValues}
use Rattle.shared_costs.specs.Tables.{IsTableOver}
use Rattle.bucket_bounds.specs.Rest.{deep_cost}
use Rattle.bucket_bounds.specs.declared.bucket.Bucket.{Bucket}

-- the bounds of depth p, which are tables, for the buckets of the variables from p on: the bounds
-- of depth p + 1 that do not name variable p, and the tables that the bucket of p sends
abbrev pub bounds_from : ℕ → List Bucket → List CostTable
bounds_from p [] = []
bounds_from p (bucket ∷ later) = filter (λ t. not (has t.scope p)) (bounds_from (p + 1) later) ++ bucket.sent

-- the bounds of depth p that name variables
abbrev pub bounds_at : ℕ → List Bucket → List CostTable
bounds_at p buckets = bounds_from p (drop p buckets)

-- the number among the bounds of depth p: the sum of what the buckets from p on send besides tables
abbrev pub fixed_at : ℕ → List Bucket → ℕ
fixed_at p buckets = sum_by (λ bucket. bucket.fixed) (drop p buckets)

-- the sum of the bounds of depth p at these values
abbrev pub bound_at : ℕ → List Bucket → (ℕ → ℕ) → ℕ
bound_at p buckets value = fixed_at p buckets + cost_with (bounds_at p buckets) value

-- the tables of each bucket, by depth
abbrev pub tables_in : List Bucket → List (List CostTable)
tables_in buckets = map (λ bucket. bucket.tables) buckets

-- the bucket of variable p
abbrev pub bucket_of : List Bucket → ℕ → Bucket
bucket_of buckets p = slice_index_or buckets p (record { tables = []; came = []; sent = []; fixed = 0; groups = 0; replaced = 0 })

-- a bucket of variable p, when these are the bounds of depth p + 1: those that name p come to it, and it sends tables over earlier variables
pub record IsBucket (sizes : List ℕ) (p : ℕ) (bounds : List CostTable) (bucket : Bucket) : Type 0 where
  pub came : bucket.came ≡ filter (λ t. has t.scope p) bounds
  pub sent : All (λ t. IsTableOver sizes t × All (λ v. v < p) t.scope) bucket.sent

-- a bucket for each variable, with the tables of these depths; the bounds of each depth sum to at most what the tables of that depth and more sum to
pub record AreBucketBounds (sizes : List ℕ) (depths : List (List CostTable)) (buckets : List Bucket) : Type 0 where
  pub many : length buckets ≡ length sizes
  pub tables : tables_in buckets ≡ depths
  pub each : (p : ℕ) → p < length sizes → IsBucket sizes p (bounds_at (p + 1) buckets) (bucket_of buckets p)
  pub low : (p : ℕ) (value : ℕ → ℕ) → p ≤ length sizes → AreValues sizes value → bound_at p buckets value ≤ deep_cost p depths value

-- the number of cells that the bounds of all depths keep: for each bucket the cells of the tables that it sends, and one cell for what it sends besides
abbrev pub kept_cells : List Bucket → ℕ
kept_cells buckets = sum_by (λ bucket. 1 + cell_count bucket.sent) buckets
