-- Estimates of what an assignment costs at least, and when a value is passed over.
use Rattle.std.specs.Prelude.{ℕ, ◌+◌, ◌-◌, ◌/◌, ◌≤◌, List, take, Option, Some, None}
use Rattle.shared_costs.specs.Tables.{depths_cost}
use Rattle.bucket_bounds.specs.Bounds.{tables_in, bound_at}
use Rattle.bucket_bounds.specs.declared.bucket.Bucket.{Bucket}

-- the estimate at depth p, when the first p variables have these values: the sum of the tables of lower depth and of the bounds of depth p
abbrev pub estimate : ℕ → List Bucket → (ℕ → ℕ) → ℕ
estimate p buckets value = depths_cost (take p (tables_in buckets)) value + bound_at p buckets value

-- a scaled cost as a cost of the problem, rounded up
abbrev pub unscaled : ℕ → ℕ → ℕ
unscaled scale scaled = (scaled + (scale - 1)) / scale

-- an estimate is passed over: with the error added, it is no better than the best known cost; if nothing is known, none is passed over
abbrev pub IsPassedOver : ℕ → ℕ → Option ℕ → ℕ → Type 0
IsPassedOver scale error None scaled = ⊥
IsPassedOver scale error (Some best) scaled = best ≤ unscaled scale scaled + error
