-- The sizes and values of a cell's variables, given one by one.
use Rattle.std.specs.Prelude.{◌≡◌, ℕ, ◌<◌, List, length, slice_index}
use Rattle.dcop_base.specs.Table.{AreWithin}

-- `count` sizes, and as many values, each below its size; if `tells` holds of a place k below
-- `count` and of a pair of numbers, this pair is the size and the value of variable k
pub record AreDigits (tells : ℕ → ℕ × ℕ → Type 0) (count : ℕ) (sizes : List ℕ) (values : List ℕ) : Type 0 where
  pub counted : length sizes ≡ count
  pub within : AreWithin sizes values
  pub each : (k : ℕ) (digit : ℕ × ℕ) → k < count → tells k digit → digit ≡ (slice_index sizes k, slice_index values k)
