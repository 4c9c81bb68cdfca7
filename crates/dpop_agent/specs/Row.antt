-- Costs of an agent's own values, to which tables are added.
use Rattle.std.specs.Prelude.{◌≡◌, ℕ, ◌+◌, ◌<◌, ◌≤◌, List, map, length, slice_index}
use Rattle.std.specs.List.{All}
use Rattle.dcop_base.specs.Limits.{amount_limit}
use Rattle.dcop_base.specs.Table.{CostTable, AreWithin}
use Rattle.dcop_base.specs.Values.{cost_with, with_own}
use Rattle.adopt_context.specs.Bounds.{cap}
use Rattle.protocol_steps.specs.Dpop.{DpopView, separator, size_of}

-- each variable of an agent's separator has a value below its size
abbrev pub AreBelowSizes : DpopView → (ℕ → ℕ) → Type 0
AreBelowSizes v value = AreWithin (map (size_of v) (separator v)) (map value (separator v))

-- a table has a cell at these values and each of the first `count` own values
abbrev pub HasCells : ℕ → (ℕ → ℕ) → ℕ → CostTable → Type 0
HasCells me value count t = (d : ℕ) → d < count → AreWithin t.sizes (map (with_own me d value) t.scope)

-- a row of costs, one for each own value, after these tables were added at these values; the sums are cut off at the cap
pub record HasRisen (me : ℕ) (value : ℕ → ℕ) (ts : List CostTable) (old new : List ℕ) : Type 0 where
  pub counted : length new ≡ length old
  pub within : All (λ c. c ≤ amount_limit) new
  pub each : (d : ℕ) → d < length old → slice_index new d ≡ cap (slice_index old d + cost_with ts (with_own me d value))
