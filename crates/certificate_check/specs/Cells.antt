-- The cells of a certificate's tables, and the sums with which they are compared.
use Rattle.std.specs.Prelude.{◌≡◌, ℕ, ◌+◌, ◌<◌, ◌==◌, List, map, is_none, slice_index}
use Rattle.std.specs.List.{count_by, sum_by, position_or_len}
use Rattle.dcop_base.specs.Table.{CostTable}
use Rattle.dcop_base.specs.Problem.{Dcop}
use Rattle.dcop_base.specs.Values.{cell_with, cost_with, with_own}
use Rattle.pseudotree.specs.Tree.{children_of}
use Rattle.dcop_optimum.specs.Certificate.{value_by}
use Rattle.certificate_text.specs.declared.certificate.Util.{Util}
use Rattle.minimised_problem.specs.Told.{told, sized, parents_told}
use Rattle.minimised_problem.specs.Cells.{values_of_cell}

-- each variable below `count` has exactly one of these tables
abbrev pub HaveOneEach : ℕ → List Util → Type 0
HaveOneEach count utils = (var : ℕ) → var < count → count_by (λ u. u.var == var) utils ≡ 1

-- the values that cell k of a table gives the variables of its scope, with d for the table's own
-- variable
abbrev pub values_at_cell : List ℕ → Util → ℕ → ℕ → ℕ → ℕ
values_at_cell sizes u k d = with_own u.var d (value_by u.scope (values_of_cell (sized sizes u).sizes k))

-- the sum of the cells of own tables and of the children's tables at these values
abbrev pub sum_below : List ℕ → List CostTable → List Util → (ℕ → ℕ) → ℕ
sum_below sizes own children value = cost_with own value + sum_by (λ u. cell_with (sized sizes u) value) children

-- the tables of the children of a variable
abbrev pub children_told : List (List ℕ) → List Util → ℕ → List Util
children_told paths utils i = map (told utils) (children_of paths i)

-- the lowest variable without a parent
abbrev pub root_told : Dcop → List Util → ℕ
root_told p utils = position_or_len is_none (parents_told p utils)

-- the first cell of that variable's table
abbrev pub root_cell : Dcop → List Util → ℕ
root_cell p utils = slice_index (told utils (root_told p utils)).cells 0
