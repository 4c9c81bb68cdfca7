-- The tables that DPOP agents have made, in the form of a certificate.
use Rattle.std.specs.Prelude.{◌≡◌, ℕ, ◌<◌, List, [], length, map, Option, Some, None, slice_get}
use Rattle.std.specs.List.{AllZip}
use Rattle.dcop_base.specs.Table.{CostTable}
use Rattle.dcop_base.specs.Problem.{Dcop}
use Rattle.pseudotree.specs.Tree.{parent_of}
use Rattle.pseudotree.specs.Preorder.{preorder_of}
use Rattle.pseudotree.specs.Place.{sizes_of}
use Rattle.run_laws.specs.DpopAgents.{IsOptimumTable}
use Rattle.certificate_text.specs.declared.certificate.Util.{Util}

-- the table of variable i in a certificate: its parent, its separator from the root down, and the
-- subtree optimum for each choice of values of the separator
pub record IsUtilOf (p : Dcop) (paths : List (List ℕ)) (i : ℕ) (u : Util) : Type 0 where
  pub var : u.var ≡ i
  pub parent : u.parent ≡ parent_of paths i
  pub table : IsOptimumTable p paths i (record { scope = u.scope; sizes = sizes_of p u.scope; cells = u.cells })

-- the tables of all variables on a tree, in preorder
abbrev pub AreUtilsOf : Dcop → List (List ℕ) → List Util → Type 0
AreUtilsOf p paths utils = AllZip (IsUtilOf p paths) (preorder_of paths) utils

-- the agent of each variable has made the table of its subtree optima on the tree
abbrev pub HaveMade : Dcop → List (List ℕ) → List (Option CostTable) → Type 0
HaveMade p paths tables = (i : ℕ) → i < length p.sizes → (t : CostTable) × (slice_get tables i ≡ Some (Some t)) × IsOptimumTable p paths i t

-- the cells of the table of an agent; none if there is no such agent or it has made no table
abbrev pub cells_on : Option (Option CostTable) → List ℕ
cells_on None = []
cells_on (Some None) = []
cells_on (Some (Some t)) = t.cells

-- the table of the agent of variable i, with the separator that this function gives
abbrev pub util_with : (ℕ → List ℕ) → List (List ℕ) → List (Option CostTable) → ℕ → Util
util_with separator paths tables i = record { var = i; parent = parent_of paths i; scope = separator i; cells = cells_on (slice_get tables i) }

-- the tables of all agents in preorder, with the separators that this function gives
abbrev pub utils_with : (ℕ → List ℕ) → List (List ℕ) → List (Option CostTable) → List Util
utils_with separator paths tables = map (util_with separator paths tables) (preorder_of paths)
