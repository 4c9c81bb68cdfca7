-- Why an edit is refused. The first reason that applies is reported.
use Rattle.std.specs.Prelude.{◌≡◌, ℕ, ◌<◌, ◌≤◌, not, List, length, Option, Some, None, ◌==◌, nat_lt, nat_le, if◌then◌else◌, slice_index_or, slice_set}
use Rattle.std.specs.List.{All, list_any}
use Rattle.dcop_base.specs.Table.{CostTable}
use Rattle.dcop_base.specs.Problem.{Dcop}
use Rattle.dcop_base.specs.Limits.{amount_limit, cost_limit}
use Rattle.dcop_optimum.specs.Goal.{top_of}
use Rattle.edit_session.specs.Edits.{no_table, with_cells}
use Rattle.edit_session.specs.declared.fault.SetFault.{SetFault}
use Rattle.edit_session.specs.declared.fault.SetFault.TheVariants.{NoTable, NoCell, CostTooLarge, SumTooLarge, NoMemory}

-- the first of two faults
abbrev pub or_else : Option SetFault → Option SetFault → Option SetFault
or_else (Some fault) later = Some fault
or_else None later = later

-- the cells of table k
abbrev pub cells_in : List CostTable → ℕ → List ℕ
cells_in tables k = (slice_index_or tables k no_table).cells

-- the fault if, with these cells in table k, the sum of the greatest cells would exceed
-- amount_limit
abbrev pub sum_fault : Dcop → ℕ → List ℕ → Option SetFault
sum_fault p k cells = if nat_lt amount_limit (top_of (with_cells p k cells)) then Some SumTooLarge else None

-- the fault of setting one cell of table k to this cost: no such table, no such cell, or too large
-- a cost
abbrev pub cell_fault : List CostTable → ℕ → ℕ → ℕ → Option SetFault
cell_fault tables k cell cost =
    if nat_le (length tables) k then Some NoTable
    else (if nat_le (length (cells_in tables k)) cell then Some NoCell
    else (if nat_lt cost_limit cost then Some CostTooLarge else None))

-- the cells of table k with one of them set to this cost
abbrev pub cells_set : List CostTable → ℕ → ℕ → ℕ → List ℕ
cells_set tables k cell cost = slice_set (cells_in tables k) cell cost

-- the first fault of an edit of one cell
abbrev pub set_fault : Dcop → ℕ → ℕ → ℕ → Option SetFault
set_fault p k cell cost = or_else (cell_fault p.tables k cell cost) (sum_fault p k (cells_set p.tables k cell cost))

-- the fault of replacing the cells of table k: no such table, another number of cells, or too large
-- a cost
abbrev pub cells_fault : List CostTable → ℕ → List ℕ → Option SetFault
cells_fault tables k cells =
    if nat_le (length tables) k then Some NoTable
    else (if not (length cells == length (cells_in tables k)) then Some NoCell
    else (if list_any (λ c. nat_lt cost_limit c) cells then Some CostTooLarge else None))

-- the first fault of an edit of all cells of a table
abbrev pub fill_fault : Dcop → ℕ → List ℕ → Option SetFault
fill_fault p k cells = or_else (cells_fault p.tables k cells) (sum_fault p k cells)

-- a refusal has this fault; if memory runs out, nothing is promised
abbrev pub IsEditFaultOf : Option SetFault → SetFault → Type 0
IsEditFaultOf fault NoMemory = Unit {0}
IsEditFaultOf fault e = fault ≡ Some e

-- these cells may replace those of table k: the table exists, it has as many cells, and no cost is
-- too large
pub record IsReplacement (tables : List CostTable) (k : ℕ) (cells : List ℕ) : Type 0 where
  pub inside : k < length tables
  pub counted : length cells ≡ length (cells_in tables k)
  pub cheap : All (λ c. c ≤ cost_limit) cells
