-- Mini-buckets: what the bucket of a variable sends, with any groups and any sharing of costs among them.
use Rattle.std.specs.Prelude.{◌≡◌, ℕ, ◌+◌, ◌-◌, ◌<◌, List, [], ◌∷◌, ◌++◌, length}
use Rattle.std.specs.List.{All, AllZip, filter}
use Rattle.dcop_base.specs.Table.{CostTable, has}
use Rattle.util_project.specs.Projection.{IsProjection}
use Rattle.bucket_bounds.specs.Bounds.{bounds_from, kept_cells}
use Rattle.bucket_bounds.specs.Kept.{AreProjectionsKept}
use Rattle.bucket_bounds.specs.Made.{IsItem}
use Rattle.bucket_bounds.specs.Parts.{AreGroupsJoined}
use Rattle.bucket_bounds.specs.declared.bucket.Bucket.{Bucket}

-- what is sent from the parts of the bucket of variable p: what is kept of their projections by p, with room for this many cells
pub record IsSentOf (p room : ℕ) (parts sent : List CostTable) (fixed replaced : ℕ) : Type 0 where
  pub projections : List CostTable
  pub each : AllZip (λ t less. IsProjection t p less) parts projections
  pub kept : AreProjectionsKept room projections sent fixed replaced

-- a bucket of variable p: its tables and the bounds that came to it were parted into groups within the limit, with p shared among them, and it sends what is kept of these parts, with room for this many cells
pub record IsMiniBucket (sizes : List ℕ) (limit p room : ℕ) (bucket : Bucket) : Type 0 where
  pub within : p < length sizes
  pub tables : All (IsItem sizes p) bucket.tables
  pub parts : List CostTable
  pub parted : AreGroupsJoined sizes limit p (bucket.tables ++ bucket.came) parts
  pub groups : bucket.groups ≡ length parts
  pub sent : IsSentOf p room parts bucket.sent bucket.fixed bucket.replaced

-- buckets of the variables from p on: to each came the bounds of the later ones that name its
-- variable; its room is the given number of cells, less those that the bounds of the later buckets
-- keep, and less one for each variable from 0 to its own
abbrev pub AreMiniBuckets : List ℕ → ℕ → ℕ → ℕ → List Bucket → Type 0
AreMiniBuckets sizes limit cells p [] = Unit {0}
AreMiniBuckets sizes limit cells p (bucket ∷ later) =
    (bucket.came ≡ filter (λ t. has t.scope p) (bounds_from (p + 1) later))
    × IsMiniBucket sizes limit p (cells - (kept_cells later + (p + 1))) bucket
    × AreMiniBuckets sizes limit cells (p + 1) later
