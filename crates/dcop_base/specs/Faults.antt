-- The first fault of sizes and tables, in the order in which a problem is refused.
use Rattle.std.specs.Prelude.{ℕ, ◌+◌, ◌∷◌, ◌++◌, Bool, not, ◌||◌, List, [], map, length, Option, Some, None, ◌==◌, nat_eq, nat_lt, nat_le, if◌then◌else◌, slice_index}
use Rattle.std.specs.List.{list_any, sum_by, position}
use Rattle.std.specs.Cmp.Lexicographic.{pointwise}
use Rattle.dcop_base.specs.Table.{CostTable, has_repeat, greatest}
use Rattle.dcop_base.specs.declared.problem.ProblemFault.{ProblemFault}
use Rattle.dcop_base.specs.declared.problem.ProblemFault.TheVariants.{NoVariables, TooManyVariables, DomainSize, ScopeLength, ScopeRange, ScopeRepeat, CellCount, CostTooLarge, TooManyCells, SumTooLarge}
use Rattle.dcop_base.specs.Limits.{amount_limit, variable_limit, size_limit, scope_limit, cost_limit, cell_limit}

-- the number of cells of all tables together
abbrev pub cell_count : List CostTable → ℕ
cell_count ts = sum_by (λ t. length t.cells) ts

-- the sum of the tables' greatest cells; no assignment costs more
abbrev pub greatest_sum : List CostTable → ℕ
greatest_sum ts = sum_by (λ t. greatest t.cells) ts

-- whether a number is not a domain size: it is 0 or above size_limit
abbrev pub is_bad_size : ℕ → Bool
is_bad_size size = size == 0 || nat_lt size_limit size

-- the fault, if any, in the cells of a table that comes after these earlier tables; the last argument is the place of its first cell above cost_limit, if there is one
abbrev pub cells_fault : List CostTable → List ℕ → Option ℕ → Option ProblemFault
cells_fault earlier cells (Some cell) = Some (CostTooLarge (length earlier) cell)
cells_fault earlier cells None =
    if nat_lt cell_limit (cell_count earlier + length cells) then Some (TooManyCells (length earlier))
    else (if nat_lt amount_limit (greatest_sum earlier + greatest cells) then Some (SumTooLarge (length earlier))
    else None)

-- the fault, if any, of a table that comes after these earlier tables in a problem with these sizes
abbrev pub next_fault : List ℕ → List CostTable → CostTable → Option ProblemFault
next_fault sizes earlier t =
    if length t.scope == 0 || nat_lt scope_limit (length t.scope) then Some (ScopeLength (length earlier))
    else (if list_any (λ v. nat_le (length sizes) v) t.scope then Some (ScopeRange (length earlier))
    else (if has_repeat t.scope then Some (ScopeRepeat (length earlier))
    else (if not (pointwise nat_eq t.sizes (map (λ v. slice_index sizes v) t.scope)) then Some (CellCount (length earlier))
    else cells_fault earlier t.cells (position (λ c. nat_lt cost_limit c) t.cells))))

-- the first of two optional faults
abbrev pub first_fault : Option ProblemFault → Option ProblemFault → Option ProblemFault
first_fault (Some fault) later = Some fault
first_fault None later = later

-- the first fault of these tables, which come after the earlier ones
abbrev pub tables_fault : List ℕ → List CostTable → List CostTable → Option ProblemFault
tables_fault sizes earlier [] = None
tables_fault sizes earlier (t ∷ ts) = first_fault (next_fault sizes earlier t) (tables_fault sizes (earlier ++ (t ∷ [])) ts)

-- the fault of the first variable whose size is not a domain size, if there is such a variable
abbrev pub sizes_fault : Option ℕ → Option ProblemFault
sizes_fault (Some var) = Some (DomainSize var)
sizes_fault None = None

-- the first fault of a problem's sizes and tables
abbrev pub problem_fault : List ℕ → List CostTable → Option ProblemFault
problem_fault sizes tables =
    if length sizes == 0 then Some NoVariables
    else (if nat_lt variable_limit (length sizes) then Some TooManyVariables
    else first_fault (sizes_fault (position is_bad_size sizes)) (tables_fault sizes [] tables))
