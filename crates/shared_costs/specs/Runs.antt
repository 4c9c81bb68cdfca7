-- Cells by their value of one variable.
use Rattle.std.specs.Prelude.{◌≡◌, ℕ, ◌+◌, ◌-◌, ◌/◌, ◌%◌, ◌<◌, ◌≤◌, List, length, min, slice_index}
use Rattle.std.specs.List.{All}
use Rattle.dcop_base.specs.Limits.{amount_limit}

-- the value of a variable with this size at cell `k`; a table over the variables after it has `inner` cells
abbrev pub digit : ℕ → ℕ → ℕ → ℕ
digit size inner k = (k / inner) % size

-- amounts, one for each value of a variable, that were lowered to at most each cell at that value
pub record IsLowered (inner : ℕ) (cells old new : List ℕ) : Type 0 where
  pub count : length new ≡ length old
  pub less : (a : ℕ) → slice_index new a ≤ slice_index old a
  pub below : (k : ℕ) → k < length cells → slice_index new (digit (length old) inner k) ≤ slice_index cells k

-- a cell after a low was taken from it and a gain added to it
abbrev pub moved : ℕ → ℕ → ℕ → ℕ
moved cell low gain = min (cell - low + gain) amount_limit

-- cells after the low of their value of a variable was taken from them and the gain of that value added
pub record IsShifted (inner : ℕ) (lows gains old new : List ℕ) : Type 0 where
  pub count : length new ≡ length old
  pub small : All (λ c. c ≤ amount_limit) new
  pub cells : (k : ℕ) → k < length old → slice_index new k ≡ moved (slice_index old k) (slice_index lows (digit (length lows) inner k)) (slice_index gains (digit (length lows) inner k))

-- the same for the cells from one place up to another, with one low and one gain
pub record IsShiftedRun (start end low gain : ℕ) (old new : List ℕ) : Type 0 where
  pub count : length new ≡ length old
  pub small : All (λ c. c ≤ amount_limit) new
  pub cells : (k : ℕ) → start ≤ k → k < end → slice_index new k ≡ moved (slice_index old k) low gain
  pub before : (k : ℕ) → k < start → slice_index new k ≡ slice_index old k
  pub behind : (k : ℕ) → end ≤ k → slice_index new k ≡ slice_index old k
