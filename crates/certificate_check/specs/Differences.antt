-- The conditions on a certificate of tables, in their order, each with the difference that is
-- reported if it fails.
use Rattle.std.specs.Prelude.{ℕ, ◌*◌, ◌-◌, List, [], ◌∷◌, length, Option, Some, None, ◌==◌, nat_lt, if◌then◌else◌, slice_index}
use Rattle.std.specs.List.{range_with_len}
use Rattle.std.specs.Option.{option_or}
use Rattle.std.specs.Str.{bytes_eq}
use Rattle.dcop_base.specs.Table.{CostTable}
use Rattle.dcop_base.specs.Problem.{Dcop, cost}
use Rattle.pseudotree.specs.Pseudotree.{separator_of}
use Rattle.pseudotree.specs.Fault.{IsFirstFault}
use Rattle.pseudotree.specs.declared.fault.TreeFault.TheVariants.{Roots, Loop, Pair}
use Rattle.dcop_optimum.specs.Certificate.{tables_on_path}
use Rattle.problem_text.specs.File.{TextFile}
use Rattle.certificate_text.specs.declared.certificate.Util.{Util}
use Rattle.certificate_text.specs.declared.report.Report.{Report}
use Rattle.certificate_text.specs.declared.report.Ending.{Ending}
use Rattle.certificate_text.specs.declared.report.Ending.TheVariants.{Solved, Spent}
use Rattle.certificate_text.specs.declared.verdict.Differs.{Differs}
use Rattle.certificate_text.specs.declared.verdict.Differs.TheVariants.{TreeRoots, TreeLoop, TreePair, Scope, Cell, Cost, Root, Lower, Upper, Error, Deliveries, Status}
use Rattle.minimised_problem.specs.Goal.{problem_solved}
use Rattle.minimised_problem.specs.Told.{told, variables}
use Rattle.certificate_check.specs.Cells.{sum_below, values_at_cell, children_told, root_cell}

-- the parents do not form a pseudotree of the problem, and this is the first reason
abbrev pub IsTreeDifference : Dcop → List (Option ℕ) → Differs → Type 0
IsTreeDifference p parents (TreeRoots count) = IsFirstFault p parents (Roots count)
IsTreeDifference p parents (TreeLoop var) = IsFirstFault p parents (Loop var)
IsTreeDifference p parents (TreePair one other) = IsFirstFault p parents (Pair one other)
IsTreeDifference p parents differs = ⊥

-- the first difference that a test finds for these numbers, one after the other
abbrev pub first_of : (ℕ → Option Differs) → List ℕ → Option Differs
first_of test [] = None
first_of test (x ∷ xs) = option_or (test x) (first_of test xs)

-- the difference of a scope that is not the separator from the root down
abbrev pub scope_difference : Dcop → List (List ℕ) → List Util → ℕ → Option Differs
scope_difference p paths utils i = if bytes_eq (told utils i).scope (separator_of p paths i) then None else Some (Scope i)

-- the difference of a cell of a table that is, at a value of its variable, above the sum of the own
-- tables' and the children's cells
abbrev pub value_difference : List ℕ → List CostTable → List Util → Util → ℕ → ℕ → Option Differs
value_difference sizes own children u k d =
    let left : ℕ = slice_index u.cells k in
    let right : ℕ = sum_below sizes own children (values_at_cell sizes u k d) in
    if nat_lt right left then Some (Cell u.var k d left right) else None

-- the first such difference of a cell, over the values of its variable
abbrev pub cell_difference : List ℕ → List CostTable → List Util → Util → ℕ → Option Differs
cell_difference sizes own children u k = first_of (value_difference sizes own children u k) (range_with_len 0 (slice_index sizes u.var))

-- the first such difference of a table, over its cells
abbrev pub table_difference : List ℕ → List CostTable → List Util → Util → Option Differs
table_difference sizes own children u = first_of (cell_difference sizes own children u) (range_with_len 0 (length u.cells))

-- the first such difference of a variable's table
abbrev pub cells_difference : Dcop → List (List ℕ) → List Util → ℕ → Option Differs
cells_difference p paths utils i = table_difference p.sizes (tables_on_path p paths i) (children_told paths utils i) (told utils i)

-- the difference if a printed number, on the left, is not the right one, on the right
abbrev pub unless_same : (ℕ → ℕ → Differs) → ℕ → ℕ → Option Differs
unless_same differs left right = if left == right then None else Some (differs left right)

-- the difference of a status that is not solved
abbrev pub status_difference : Ending → Option Differs
status_difference Solved = None
status_difference Spent = Some (Status Spent)

-- how many messages DPOP takes with `count` agents: two for each agent but one
abbrev pub dpop_deliveries : ℕ → ℕ
dpop_deliveries count = 2 * (count - 1)

-- the first difference of these numbers: lower and upper must be the cost, the error must be 0, the
-- deliveries must be this number, and the status must be solved
abbrev pub bound_difference : ℕ → Report → Option Differs
bound_difference deliveries r =
    option_or (unless_same (λ left right. Lower left right) r.lower r.cost)
    (option_or (unless_same (λ left right. Upper left right) r.upper r.cost)
    (option_or (unless_same (λ left right. Error left right) r.error 0)
    (option_or (unless_same (λ left right. Deliveries left right) r.deliveries deliveries)
    (status_difference r.status))))

-- the first difference of the numbers: the cost must be that of the values, the root's cell must be
-- their cost in the problem solved, and the other numbers must be right
abbrev pub number_difference : TextFile → ℕ → ℕ → Report → Option Differs
number_difference f root deliveries r =
    option_or (unless_same (λ left right. Cost left right) r.cost (cost f.problem r.values))
    (option_or (unless_same (λ left right. Root left right) root (cost (problem_solved f) r.values))
    (bound_difference deliveries r))

-- the first difference in the scopes, by variable, then in the cells, by variable, cell and value,
-- and then in the numbers
abbrev pub difference_in : TextFile → List (List ℕ) → List Util → Report → Option Differs
difference_in f paths utils r =
    let p : Dcop = problem_solved f in
    option_or (first_of (scope_difference p paths utils) (variables p))
    (option_or (first_of (cells_difference p paths utils) (variables p))
    (number_difference f (root_cell p utils) (dpop_deliveries (length f.problem.sizes)) r))
