-- Rows of what tables cost at least, their sums, and the parts of these that the tables get.
use Rattle.std.specs.Prelude.{◌≡◌, ℕ, zero, suc, ◌+◌, ◌*◌, ◌<◌, ◌≤◌, true, List, [], length, take, drop, min, slice_index, slice_index_or}
use Rattle.std.specs.List.{All}
use Rattle.dcop_base.specs.Limits.{amount_limit}
use Rattle.dcop_base.specs.Table.{CostTable, has}
use Rattle.shared_costs.specs.Moves.{AreLows}

-- the table at this place, or a table without variables after the last place
abbrev pub table_at : List CostTable → ℕ → CostTable
table_at ts k = slice_index_or ts k (record { scope = []; sizes = []; cells = [] })

-- places of tables that name the variable, in ascending order
pub record AreNaming (ts : List CostTable) (var : ℕ) (places : List ℕ) : Type 0 where
  pub inside : All (λ k. k < length ts) places
  pub names : All (λ k. has (table_at ts k).scope var ≡ true) places
  pub ascend : (j : ℕ) → suc j < length places → slice_index places j < slice_index places (suc j)

-- the row with this number, when each row has `size` amounts
abbrev pub row_of : List ℕ → ℕ → ℕ → List ℕ
row_of rows size j = take size (drop (j * size) rows)

-- the sum of the first rows at this place
abbrev pub rows_sum : List ℕ → ℕ → ℕ → ℕ → ℕ
rows_sum rows size a zero = 0
rows_sum rows size a (suc n) = rows_sum rows size a n + slice_index rows (n * size + a)

-- a row for each of the first `done` tables at these places: for each value of the variable an amount that is at most each cell of the table there
pub record AreLowRows (ts : List CostTable) (var size : ℕ) (places : List ℕ) (done : ℕ) (rows : List ℕ) : Type 0 where
  pub count : length rows ≡ done * size
  pub small : All (λ n. n ≤ amount_limit) rows
  pub lows : (j : ℕ) → j < done → AreLows (table_at ts (slice_index places j)) var (row_of rows size j)

-- the sums of `count` rows, place by place; a sum above the greatest amount becomes that amount
pub record ArePotOf (rows : List ℕ) (size count : ℕ) (pot : List ℕ) : Type 0 where
  pub many : length pot ≡ size
  pub small : All (λ n. n ≤ amount_limit) pot
  pub sums : (a : ℕ) → a < size → slice_index pot a ≡ min (rows_sum rows size a count) amount_limit

-- parts were taken from amounts for one of `left` takers; the last taker gets all that is left
pub record IsParting (left : ℕ) (old new parts : List ℕ) : Type 0 where
  pub many : length new ≡ length old
  pub sums : (a : ℕ) → a < length old → slice_index parts a + slice_index new a ≡ slice_index old a
  pub last : left ≡ 1 → (a : ℕ) → a < length old → slice_index new a ≡ 0
