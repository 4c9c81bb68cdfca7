-- Exact bounds.
use Rattle.std.specs.Prelude.{◌≡◌, ℕ, ◌≤◌, List, length}
use Rattle.std.specs.List.{All}
use Rattle.dcop_base.specs.Table.{CostTable}
use Rattle.shared_costs.specs.Values.{AreValues}
use Rattle.bucket_bounds.specs.Rest.{IsRest}
use Rattle.bucket_bounds.specs.Bounds.{bound_at}
use Rattle.bucket_bounds.specs.declared.bucket.Bucket.{Bucket}

-- a bucket that was not parted and none of whose bounds was replaced by its least cell
pub record IsUnparted (bucket : Bucket) : Type 0 where
  pub whole : bucket.groups ≤ 1
  pub kept : bucket.replaced ≡ 0

-- the bounds of each depth sum to exactly the rest: the least sum of the tables of that depth and
-- more
abbrev pub AreExact : List ℕ → List (List CostTable) → List Bucket → Type 0
AreExact sizes depths buckets = (p : ℕ) (value : ℕ → ℕ) → p ≤ length sizes → AreValues sizes value → IsRest sizes depths p value (bound_at p buckets value)

-- if no bucket was parted and no bound was replaced, the bounds are exact
abbrev pub AreExactUnparted : List ℕ → List (List CostTable) → List Bucket → Type 0
AreExactUnparted sizes depths buckets = All IsUnparted buckets → AreExact sizes depths buckets
