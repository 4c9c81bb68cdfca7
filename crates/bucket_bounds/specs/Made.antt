-- Buckets by what they send, the last one first.
use Rattle.std.specs.Prelude.{◌≡◌, ℕ, ◌+◌, ◌<◌, ◌≤◌, List, [], ◌∷◌, slice_index}
use Rattle.std.specs.List.{All, filter}
use Rattle.dcop_base.specs.Table.{CostTable, has}
use Rattle.dcop_base.specs.Values.{cost_with, with_own}
use Rattle.shared_costs.specs.Values.{AreValues}
use Rattle.shared_costs.specs.Tables.{IsTableOver, IsOfDepth}
use Rattle.bucket_bounds.specs.Bounds.{bounds_from}
use Rattle.bucket_bounds.specs.Exact.{IsUnparted}
use Rattle.bucket_bounds.specs.declared.bucket.Bucket.{Bucket}

-- a table in the bucket of variable p: it is over variables with these sizes, and p is the last of them
abbrev pub IsItem : List ℕ → ℕ → CostTable → Type 0
IsItem sizes p t = IsTableOver sizes t × IsOfDepth p t

-- a table that the bucket of variable p may send: it is over earlier variables
abbrev pub IsBoundTable : List ℕ → ℕ → CostTable → Type 0
IsBoundTable sizes p t = IsTableOver sizes t × All (λ v. v < p) t.scope

-- a bucket of variable p, when these are the bounds of depth p + 1: what it sends costs at most
-- what its tables and the bounds that come to it cost. If it was not parted and none of its bounds
-- was replaced (`IsUnparted`), then, at any values of the other variables, there is a value of p at
-- which they cost exactly as much as what it sends
pub record IsBucketMade (sizes : List ℕ) (p : ℕ) (bounds : List CostTable) (bucket : Bucket) : Type 0 where
  pub tables : All (IsItem sizes p) bucket.tables
  pub came : bucket.came ≡ filter (λ t. has t.scope p) bounds
  pub sent : All (IsBoundTable sizes p) bucket.sent
  pub low : (value : ℕ → ℕ) → AreValues sizes value → bucket.fixed + cost_with bucket.sent value ≤ cost_with bucket.tables value + cost_with bucket.came value
  pub exact : IsUnparted bucket → (value : ℕ → ℕ) → AreValues sizes value → (a : ℕ) × (a < slice_index sizes p) × (cost_with bucket.tables (with_own p a value) + cost_with bucket.came (with_own p a value) ≡ bucket.fixed + cost_with bucket.sent value)

-- buckets of the variables from p on, each made from the bounds of the later ones
abbrev pub AreMade : List ℕ → ℕ → List Bucket → Type 0
AreMade sizes p [] = Unit {0}
AreMade sizes p (bucket ∷ later) = IsBucketMade sizes p (bounds_from (p + 1) later) bucket × AreMade sizes (p + 1) later
