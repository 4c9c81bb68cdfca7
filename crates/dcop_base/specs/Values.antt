-- Cells of tables, and sums of cells, at values that a function gives to the variables.
use Rattle.std.specs.Prelude.{ℕ, List, map, ◌==◌, if◌then◌else◌, slice_index}
use Rattle.std.specs.List.{sum_by}
use Rattle.dcop_base.specs.Table.{CostTable, cell_place}

-- the cell of a table when each variable v has the value `value v`
abbrev pub cell_with : CostTable → (ℕ → ℕ) → ℕ
cell_with t value = slice_index t.cells (cell_place t.sizes (map value t.scope))

-- the sum of the tables' cells at these values
abbrev pub cost_with : List CostTable → (ℕ → ℕ) → ℕ
cost_with ts value = sum_by (λ t. cell_with t value) ts

-- the same values, except that variable i has the value d
abbrev pub with_own : ℕ → ℕ → (ℕ → ℕ) → ℕ → ℕ
with_own i d value v = if v == i then d else value v
