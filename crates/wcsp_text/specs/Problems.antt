-- The problem that is made from a network: cells below top are kept, and every other cell becomes a
-- cost above all sums of kept cells.
use Rattle.std.specs.Prelude.{ℕ, ◌+◌, List, map, nat_lt, nat_le, if◌then◌else◌, slice_index, min}
use Rattle.std.specs.List.{filter, sum_by}
use Rattle.dcop_base.specs.Table.{CostTable, greatest}
use Rattle.dcop_base.specs.declared.problem.ProblemFault.{ProblemFault}
use Rattle.dcop_base.specs.declared.problem.ProblemFault.TheVariants as problems
use Rattle.wcsp_text.specs.declared.fault.Fault.{Fault}
use Rattle.wcsp_text.specs.declared.fault.WcspKind.TheVariants.{Problem}
use Rattle.wcsp_text.specs.Functions.{Function}
use Rattle.wcsp_text.specs.Networks.{Network}

-- the greatest of the cells below top, or 0 if there is none
abbrev pub greatest_below : ℕ → List ℕ → ℕ
greatest_below top cells = greatest (filter (λ c. nat_lt c top) cells)

-- the sum of the functions' greatest cells below top
abbrev pub soft_sum : ℕ → List Function → ℕ
soft_sum top functions = sum_by (λ f. greatest_below top f.table.cells) functions

-- a cost above every sum of cells below top, one cell of each function
abbrev pub hard : Network → ℕ
hard w = 1 + soft_sum w.top w.functions

-- the cost from which on an assignment of the problem has the WCSP value top
abbrev pub bar : Network → ℕ
bar w = min (hard w) w.top

-- a cell, or the hard cost if the cell is at least top
abbrev pub raised : ℕ → ℕ → ℕ → ℕ
raised top hard cell = if nat_le top cell then hard else cell

-- a table whose cells of at least top become hard
abbrev pub raised_table : ℕ → ℕ → CostTable → CostTable
raised_table top hard t = record { scope = t.scope; sizes = t.sizes; cells = map (λ c. raised top hard c) t.cells }

-- the tables of the problem
abbrev pub tables : Network → List CostTable
tables w = map (λ f. raised_table w.top (hard w) f.table) w.functions

-- the number that a user sees for a fault of a problem
abbrev pub number_of_fault : ProblemFault → ℕ
number_of_fault problems.NoVariables = 1
number_of_fault (problems.DomainSize var) = 2
number_of_fault (problems.ScopeLength table) = 3
number_of_fault (problems.ScopeRange table) = 4
number_of_fault (problems.ScopeRepeat table) = 5
number_of_fault (problems.CellCount table) = 6
number_of_fault (problems.CostTooLarge table cell) = 7
number_of_fault (problems.SumTooLarge table) = 8
number_of_fault (problems.TooManyCells table) = 9
number_of_fault problems.TooManyVariables = 10
number_of_fault problems.NoMemory = 0

-- the table at which a problem is refused, or 0 if the fault has no table
abbrev pub table_of_fault : ProblemFault → ℕ
table_of_fault (problems.ScopeLength table) = table
table_of_fault (problems.ScopeRange table) = table
table_of_fault (problems.ScopeRepeat table) = table
table_of_fault (problems.CellCount table) = table
table_of_fault (problems.CostTooLarge table cell) = table
table_of_fault (problems.TooManyCells table) = table
table_of_fault (problems.SumTooLarge table) = table
table_of_fault _ = 0

-- a fault of the problem, reported at the word of the function's arity
abbrev pub told_at : List Function → ProblemFault → Fault
told_at functions fault = record {
  after = slice_index (map (λ f. f.after) functions) (table_of_fault fault);
  kind = Problem (number_of_fault fault);
}
