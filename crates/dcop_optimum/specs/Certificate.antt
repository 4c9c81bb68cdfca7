-- Tables of a certificate, which show that values are optimal.
use Rattle.std.specs.Prelude.{◌≡◌, ℕ, ◌+◌, ◌<◌, ◌≤◌, Bool, ◌&&◌, List, [], ◌∷◌, map, length, Option, ◌==◌, if◌then◌else◌, slice_index, slice_index_or}
use Rattle.std.specs.List.{sum_by, filter, list_all, range_with_len}
use Rattle.dcop_base.specs.Table.{CostTable, has, AreWithin, cell_place}
use Rattle.dcop_base.specs.Problem.{Dcop, IsAssignment, cost}
use Rattle.dcop_base.specs.Whole.{IsProblem}
use Rattle.pseudotree.specs.Tree.{children_of, IsRoot}
use Rattle.pseudotree.specs.Pseudotree.{IsPseudotree, is_within, separator_of}
use Rattle.pseudotree.specs.Place.{sizes_of}
use Rattle.pseudotree.specs.Fault.{parents_of}
use Rattle.dcop_optimum.specs.Optimum.{IsOptimum}
use Rattle.dcop_base.specs.Values.{cell_with, cost_with, with_own}
use Rattle.dcop_optimum.specs.Subtree.{own_tables_of, IsSubtreeOptimum}

-- the value that a variable has by these values of a scope; 0 if the scope does not name it
abbrev pub value_by : List ℕ → List ℕ → ℕ → ℕ
value_by [] ds v = 0
value_by (u ∷ us) [] v = 0
value_by (u ∷ us) (d ∷ ds) v = if u == v then d else value_by us ds v

-- the table that a certificate has for i, given the scopes and cells of all variables
abbrev pub util_of : Dcop → List (List ℕ) → List (List ℕ) → ℕ → CostTable
util_of p scopes cells i = record { scope = slice_index_or scopes i []; sizes = sizes_of p (slice_index_or scopes i []); cells = slice_index_or cells i [] }

-- whether a table names i and otherwise only ancestors of i
abbrev pub is_on_path : List (List ℕ) → ℕ → CostTable → Bool
is_on_path paths i t = has t.scope i && list_all (λ v. is_within paths v i) t.scope

-- the tables of a problem that name i and otherwise only ancestors of i
abbrev pub tables_on_path : Dcop → List (List ℕ) → ℕ → List CostTable
tables_on_path p paths i = filter (is_on_path paths i) p.tables

-- each cell of i is, for every value d of i, at most the cost of the tables on the path of i plus the cells of its children, all at the values of the cell and d
abbrev pub AreLowerCells : Dcop → List (List ℕ) → List (List ℕ) → List (List ℕ) → ℕ → Type 0
AreLowerCells p paths scopes cells i =
    let util : CostTable = util_of p scopes cells i in
    (values : List ℕ) (d : ℕ) → AreWithin util.sizes values → d < slice_index p.sizes i
    → slice_index util.cells (cell_place util.sizes values)
    ≤ cost_with (tables_on_path p paths i) (with_own i d (value_by util.scope values))
    + sum_by (λ c. cell_with (util_of p scopes cells c) (with_own i d (value_by util.scope values))) (children_of paths i)

-- the scopes are the separators, from the root down, and every variable has lower cells
pub record AreLowerTables (p : Dcop) (paths scopes cells : List (List ℕ)) : Type 0 where
  pub scopes_are : scopes ≡ map (separator_of p paths) (range_with_len 0 (length paths))
  pub cells_lower : (i : ℕ) → i < length paths → AreLowerCells p paths scopes cells i

-- a certificate of tables holds: the parents form a pseudotree, its tables are lower tables, and the root's one cell is the cost of the values
pub record IsTableCertificate (p : Dcop) (parents : List (Option ℕ)) (scopes cells : List (List ℕ)) (values : List ℕ) : Type 0 where
  pub paths : List (List ℕ)
  pub pseudotree : IsPseudotree p paths
  pub parents_are : parents ≡ parents_of paths
  pub tables : AreLowerTables p paths scopes cells
  pub root_cost : (root : ℕ) → IsRoot paths root → slice_index_or cells root [] ≡ cost p values ∷ []

-- lower tables are tables of lower bounds: each cell is at most the subtree optimum at its values,
-- however the tables were made
abbrev pub LowerTablesBoundOptima : Type 0
LowerTablesBoundOptima = (p : Dcop) (paths scopes cells : List (List ℕ)) → IsProblem p → IsPseudotree p paths → AreLowerTables p paths scopes cells
    → (i : ℕ) (value : ℕ → ℕ) (m : ℕ) → i < length paths → IsSubtreeOptimum p paths i value m → cell_with (util_of p scopes cells i) value ≤ m

-- in a pseudotree of a problem, the tables on the path of a variable are its own tables: those whose deepest variable it is
abbrev pub TablesOnPathsAreOwn : Type 0
TablesOnPathsAreOwn = (p : Dcop) (paths : List (List ℕ)) → IsProblem p → IsPseudotree p paths → (i : ℕ) → tables_on_path p paths i ≡ own_tables_of p paths i

-- if a certificate of tables holds, its values are optimal
abbrev pub CertificatesShowOptima : Type 0
CertificatesShowOptima = (p : Dcop) (parents : List (Option ℕ)) (scopes cells : List (List ℕ)) (values : List ℕ) → IsProblem p → IsAssignment p values
    → IsTableCertificate p parents scopes cells values → IsOptimum p (cost p values)
