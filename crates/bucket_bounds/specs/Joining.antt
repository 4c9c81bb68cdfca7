-- Joined tables of groups.
use Rattle.std.specs.Prelude.{◌≡◌, ℕ, ◌+◌, ◌≤◌, min, List, map, slice_index}
use Rattle.dcop_base.specs.Limits.{amount_limit}
use Rattle.dcop_base.specs.Table.{CostTable, AreWithin}
use Rattle.dcop_base.specs.Values.{cell_with, cost_with}
use Rattle.shared_costs.specs.Values.{AreValues}
use Rattle.bucket_bounds.specs.Union.{IsTurned}

-- a table over these variables with these sizes; each cell is the cost of its values, capped
pub record IsBucketCostOf (over sizes : List ℕ) (costs : (ℕ → ℕ) → ℕ) (t : CostTable) : Type 0 where
  pub same_scope : t.scope ≡ over
  pub same_sizes : t.sizes ≡ sizes
  pub cells : (value : ℕ → ℕ) → AreWithin sizes (map value over) → cell_with t value ≡ min (costs value) amount_limit

-- a joined table after these tables were added: at any values it costs what they cost more
pub record HasGainedCosts (ts : List CostTable) (old new : CostTable) : Type 0 where
  pub same_scope : new.scope ≡ old.scope
  pub same_sizes : new.sizes ≡ old.sizes
  pub costs : (costs : (ℕ → ℕ) → ℕ) → IsBucketCostOf old.scope old.sizes costs old → IsBucketCostOf old.scope old.sizes (λ value. costs value + cost_with ts value) new

-- a joined table of zeros over these variables, in any order, with their sizes
pub record IsZeroFor (sizes vars : List ℕ) (t : CostTable) : Type 0 where
  pub over : List ℕ
  pub turned : IsTurned vars over
  pub zero : IsBucketCostOf over (map (λ v. slice_index sizes v) over) (λ value. 0) t

-- no sum of these tables is capped
abbrev pub AreUncapped : List ℕ → List CostTable → Type 0
AreUncapped sizes ts = (value : ℕ → ℕ) → AreValues sizes value → cost_with ts value ≤ amount_limit
