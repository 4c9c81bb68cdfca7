-- The least bounds of an ADOPT agent's own values.
use Rattle.std.specs.Prelude.{◌≡◌, ℕ, ◌-◌, ◌<◌, ◌≤◌, Bool, List, length, Option, nat_lt, slice_index}
use Rattle.dcop_base.specs.Limits.{amount_limit}
use Rattle.adopt_context.specs.Bounds.{Entry, is_below, lower_at, lowest, upper_at}
use Rattle.protocol_steps.specs.Ranges.{IsBound}
use Rattle.adopt_agent.specs.Costs.{cost_where}
use Rattle.adopt_agent.specs.declared.best.Best.{Best}

-- the least of the lower and of the upper bounds of `size` own values, and the lowest values that have them
pub record AreLeast (size : ℕ) (lower_of : ℕ → ℕ) (upper_of : ℕ → Option ℕ) (best : Best) : Type 0 where
  pub lowest_lower : best.lower_value ≡ lowest nat_lt lower_of (size - 1)
  pub lower_is : best.lower ≡ lower_of best.lower_value
  pub lowest_upper : best.upper_value ≡ lowest is_below upper_of (size - 1)
  pub upper_is : best.upper ≡ upper_of best.upper_value
  pub lower_below : best.lower_value < size
  pub upper_below : best.upper_value < size
  pub lower_within : best.lower ≤ amount_limit
  pub upper_within : IsBound best.upper

-- the least bounds by these costs and rows
abbrev pub AreBest : List ℕ → Bool → List (List Entry) → Best → Type 0
AreBest costs knows_higher rows best = AreLeast (length costs) (lower_at (slice_index costs) rows) (upper_at (cost_where knows_higher costs) rows) best
