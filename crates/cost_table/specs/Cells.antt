-- Tables described by their cells, as a function of the values of their variables.
use Rattle.std.specs.Prelude.{◌≡◌, ℕ, ◌==◌, List, slice_index}
use Rattle.std.specs.List.{position_or_len, remove, insert}
use Rattle.dcop_base.specs.Table.{CostTable, AreWithin, cell_place}

-- the cell of a table at values of its scope's variables, in scope order
abbrev pub cell_of : CostTable → List ℕ → ℕ
cell_of t values = slice_index t.cells (cell_place t.sizes values)

-- the place of a variable in a list; the list's length if it is not there
abbrev pub place_in : List ℕ → ℕ → ℕ
place_in vars var = position_or_len (λ v. v == var) vars

-- a table of this scope with these sizes whose cell at any values within the sizes is that of this function
pub record IsTableBy (scope sizes : List ℕ) (f : List ℕ → ℕ) (t : CostTable) : Type 0 where
  pub same_scope : t.scope ≡ scope
  pub same_sizes : t.sizes ≡ sizes
  pub cells : (values : List ℕ) → AreWithin sizes values → cell_of t values ≡ f values

-- the slice of a table at a value of a variable: the table without the variable, with the cells at that value
abbrev pub IsSlice : CostTable → ℕ → ℕ → CostTable → Type 0
IsSlice t var val slice =
    let place = place_in t.scope var in
    IsTableBy (remove t.scope place) (remove t.sizes place) (λ values. cell_of t (insert values place val)) slice
