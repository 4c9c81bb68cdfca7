-- The least of finitely many numbers, and tables of such least numbers.
use Rattle.std.specs.Prelude.{◌≡◌, ℕ, ◌<◌, ◌≤◌, List, slice_index}
use Rattle.std.specs.List.{remove, insert}
use Rattle.dcop_base.specs.Table.{CostTable, IsTable, AreWithin}
use Rattle.cost_table.specs.Cells.{cell_of, place_in}

-- the least of the numbers f 0 to f (n - 1): it is one of them, and none is less
pub record IsLeast (f : ℕ → ℕ) (n least : ℕ) : Type 0 where
  pub attained : (d : ℕ) × (d < n) × (f d ≡ least)
  pub lower : (d : ℕ) → d < n → least ≤ f d

-- the lowest number below n at which f is least
pub record IsLowestLeast (f : ℕ → ℕ) (n d : ℕ) : Type 0 where
  pub below : d < n
  pub least : (e : ℕ) → e < n → f d ≤ f e
  pub lowest : (e : ℕ) → e < d → f d < f e

-- the number of values of a variable of a table
abbrev pub size_in : CostTable → ℕ → ℕ
size_in t var = slice_index t.sizes (place_in t.scope var)

-- the cell of a table at a value of a variable and values of the others, in scope order
abbrev pub cell_at_value : CostTable → ℕ → List ℕ → ℕ → ℕ
cell_at_value t var others d = cell_of t (insert others (place_in t.scope var) d)

-- the projection of a table by a variable: a table without the variable whose cells are each the least over the variable's values
pub record IsProjection (t : CostTable) (var : ℕ) (less : CostTable) : Type 0 where
  pub same_scope : less.scope ≡ remove t.scope (place_in t.scope var)
  pub same_sizes : less.sizes ≡ remove t.sizes (place_in t.scope var)
  pub whole : IsTable less
  pub cells : (others : List ℕ) → AreWithin (remove t.sizes (place_in t.scope var)) others → IsLeast (cell_at_value t var others) (size_in t var) (cell_of less others)
