-- Cost tables: their form, their first fault, and the cell that an assignment selects.
use Rattle.std.specs.Prelude.{◌≡◌, ℕ, ◌+◌, ◌*◌, ◌<◌, Bool, false, not, ◌||◌, List, [], ◌∷◌, map, length, Option, Some, None, ◌==◌, nat_lt, if◌then◌else◌, slice_index, max}
use Rattle.std.specs.List.{list_any, AllZip, fold}
use Rattle.dcop_base.specs.declared.table.TableFault.{TableFault}
use Rattle.dcop_base.specs.declared.table.TableFault.TheVariants.{Repeat, Sizes, CellCount, CellTooLarge}
use Rattle.dcop_base.specs.Limits.{amount_limit}

-- a cost table: its variables, the number of values of each, and its cells, ordered so that the last variable changes fastest
pub record CostTable : Type 0 where
  pub scope : List ℕ
  pub sizes : List ℕ
  pub cells : List ℕ

-- the product of the numbers; 1 for the empty list
abbrev pub product : List ℕ → ℕ
product [] = 1
product (n ∷ ns) = n * product ns

-- whether a number is in a list
abbrev pub has : List ℕ → ℕ → Bool
has xs x = list_any (λ y. y == x) xs

-- whether a list contains a number twice
abbrev pub has_repeat : List ℕ → Bool
has_repeat [] = false
has_repeat (x ∷ xs) = has xs x || has_repeat xs

-- the first fault of a table, in the order in which faults are reported
abbrev pub table_fault : List ℕ → List ℕ → List ℕ → Option TableFault
table_fault scope sizes cells =
    if has_repeat scope then Some Repeat
    else (if not (length sizes == length scope) || list_any (λ s. s == 0) sizes then Some Sizes
    else (if not (length cells == product sizes) then Some CellCount
    else (if list_any (λ c. nat_lt amount_limit c) cells then Some CellTooLarge
    else None)))

-- a table without a fault
abbrev pub IsTable : CostTable → Type 0
IsTable t = table_fault t.scope t.sizes t.cells ≡ None

-- the table has this scope, these sizes and these cells
abbrev pub IsTableOfParts : List ℕ → List ℕ → List ℕ → CostTable → Type 0
IsTableOfParts scope sizes cells t = (t.scope ≡ scope) × (t.sizes ≡ sizes) × (t.cells ≡ cells)

-- there are as many values as sizes, and each value is below its size
abbrev pub AreWithin : List ℕ → List ℕ → Type 0
AreWithin sizes values = AllZip (λ s v. v < s) sizes values

-- the place of the cell at these values, when the last variable changes fastest
abbrev pub cell_place : List ℕ → List ℕ → ℕ
cell_place [] values = 0
cell_place (s ∷ ss) [] = 0
cell_place (s ∷ ss) (v ∷ vs) = v * product ss + cell_place ss vs

-- the values that an assignment gives to the variables of a scope
abbrev pub values_at : List ℕ → List ℕ → List ℕ
values_at scope values = map (λ v. slice_index values v) scope

-- the cell that an assignment selects
abbrev pub cell_at : CostTable → List ℕ → ℕ
cell_at t values = slice_index t.cells (cell_place t.sizes (values_at t.scope values))

-- the greatest of the cells; 0 if there are none
abbrev pub greatest : List ℕ → ℕ
greatest cells = fold max 0 cells
