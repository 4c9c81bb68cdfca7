-- Laws of bounds.
use Rattle.std.specs.Prelude.{◌≡◌, ℕ, ◌*◌, ◌≤◌, List}
use Rattle.dcop_base.specs.Problem.{Dcop}
use Rattle.dcop_optimum.specs.Optimum.{IsOptimum}
use Rattle.shared_costs.specs.Shared.{AreSharedCosts}
use Rattle.shared_costs.specs.declared.shared.SharedCosts.{SharedCosts}
use Rattle.bucket_bounds.specs.Rest.{IsRest}
use Rattle.bucket_bounds.specs.Bounds.{bound_at, tables_in, AreBucketBounds}
use Rattle.bucket_bounds.specs.Exact.{AreExactUnparted}
use Rattle.bucket_bounds.specs.Made.{AreMade}
use Rattle.bucket_bounds.specs.MiniBuckets.{AreMiniBuckets}
use Rattle.bucket_bounds.specs.declared.bucket.Bucket.{Bucket}

-- if each bucket sends at most what its tables and the bounds that come to it cost, the bounds of
-- each depth sum to at most the rest, whatever the groups are into which a bucket parts its tables
abbrev pub BoundsAreAtMostTheRest : Type 0
BoundsAreAtMostTheRest = (sizes : List ℕ) (buckets : List Bucket) → AreMade sizes 0 buckets
    → (p : ℕ) (value : ℕ → ℕ) (least : ℕ) → IsRest sizes (tables_in buckets) p value least → bound_at p buckets value ≤ least

-- the bounds of mini-buckets sum at each depth to at most the rest, whatever the groups are into
-- which the buckets part their tables, however costs are shared among the joined tables, and
-- whatever bounds are replaced because cells are too few
abbrev pub MiniBucketsAreAtMostTheRest : Type 0
MiniBucketsAreAtMostTheRest = (sizes : List ℕ) (limit cells : ℕ) (buckets : List Bucket) → AreMiniBuckets sizes limit cells 0 buckets
    → (p : ℕ) (value : ℕ → ℕ) (least : ℕ) → IsRest sizes (tables_in buckets) p value least → bound_at p buckets value ≤ least

-- if no bucket is parted into several groups, and no bound is replaced by its least cell, the
-- bounds of each depth sum to exactly the rest
abbrev pub UnpartedMiniBucketsAreExact : Type 0
UnpartedMiniBucketsAreExact = (sizes : List ℕ) (limit cells : ℕ) (buckets : List Bucket) → AreMiniBuckets sizes limit cells 0 buckets → AreExactUnparted sizes (tables_in buckets) buckets

-- the bound of depth 0 is at most the scaled optimum
abbrev pub FirstBoundIsAtMostTheOptimum : Type 0
FirstBoundIsAtMostTheOptimum = (p : Dcop) (shared : SharedCosts) (buckets : List Bucket) → AreSharedCosts p shared → AreBucketBounds p.sizes shared.depths buckets
    → (value : ℕ → ℕ) (best : ℕ) → IsOptimum p best → bound_at 0 buckets value ≤ shared.scale * best

-- the bound of depth 0 of any mini-buckets of the shared costs is at most the scaled optimum
abbrev pub MiniBucketsAreAtMostTheOptimum : Type 0
MiniBucketsAreAtMostTheOptimum = (p : Dcop) (shared : SharedCosts) (limit cells : ℕ) (buckets : List Bucket) → AreSharedCosts p shared → tables_in buckets ≡ shared.depths → AreMiniBuckets p.sizes limit cells 0 buckets
    → (value : ℕ → ℕ) (best : ℕ) → IsOptimum p best → bound_at 0 buckets value ≤ shared.scale * best
