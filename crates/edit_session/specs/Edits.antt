-- Problems in which one table gets other cells, and the agents that this affects.
use Rattle.std.specs.Prelude.{◌≡◌, ℕ, ◌<◌, Bool, false, List, [], length, Option, slice_index_or, slice_set}
use Rattle.dcop_base.specs.Table.{CostTable}
use Rattle.dcop_base.specs.Problem.{Dcop}
use Rattle.dcop_base.specs.Whole.{IsProblem}
use Rattle.pseudotree.specs.Pseudotree.{IsPseudotree, IsLinked, IsPseudotreeOf, RootedTree}
use Rattle.pseudotree.specs.DepthFirst.{dfs}
use Rattle.pseudotree.specs.Width.{joined_cells, wide_of}
use Rattle.pseudotree.specs.Owner.{owner_of}
use Rattle.dcop_optimum.specs.Subtree.{is_owner_within}
use Rattle.dpop_agent.specs.declared.made.Made.{Made}
use Rattle.edit_session.specs.Held.{IsHeld}

-- an empty table, used for a table that is not there
abbrev pub no_table : CostTable
no_table = record { scope = []; sizes = []; cells = [] }

-- table k of a problem
abbrev pub table_at : Dcop → ℕ → CostTable
table_at p k = slice_index_or p.tables k no_table

-- a table with these cells in place of its own
abbrev pub recelled : CostTable → List ℕ → CostTable
recelled t cells = record { scope = t.scope; sizes = t.sizes; cells = cells }

-- the problem with these cells in its table k, and all else the same
abbrev pub with_cells : Dcop → ℕ → List ℕ → Dcop
with_cells p k cells = record { sizes = p.sizes; tables = slice_set p.tables k (recelled (table_at p k) cells); joints = p.joints }

-- whether variable i is on the way from the deepest variable of a scope to the root, both included
abbrev pub is_on_way : List (List ℕ) → List ℕ → ℕ → Bool
is_on_way paths scope i = is_owner_within paths i (owner_of paths scope)

-- the depth-first trees of two problems are the same, the trees of the first are trees of the second, and they have the same widths there
pub record HaveSameTrees (p q : Dcop) : Type 0 where
  pub trees : dfs q ≡ dfs p
  pub pseudotree : (tree : RootedTree) → IsPseudotreeOf p tree → IsPseudotreeOf q tree
  pub linked : (paths : List (List ℕ)) → IsLinked p paths → IsLinked q paths
  pub cells : (paths : List (List ℕ)) (i : ℕ) → joined_cells q paths i ≡ joined_cells p paths i
  pub wide : (paths : List (List ℕ)) → wide_of q paths ≡ wide_of p paths

-- if a table gets other cells, the trees stay the same, and the tables that were held for a
-- variable are still held, unless the variable is on the way from the table's deepest variable to
-- the root
pub record LeavesOthers (p : Dcop) (k : ℕ) (cells : List ℕ) : Type 0 where
  pub trees : HaveSameTrees p (with_cells p k cells)
  pub held : (paths : List (List ℕ)) (kept : List (Option Made)) (i : ℕ) → IsPseudotree p paths
      → is_on_way paths (table_at p k).scope i ≡ false → IsHeld p paths kept i → IsHeld (with_cells p k cells) paths kept i

-- what `LeavesOthers` says is true of every table of every problem
abbrev pub EditsLeaveOthers : Type 0
EditsLeaveOthers = (p : Dcop) (k : ℕ) (cells : List ℕ) → IsProblem p → k < length p.tables → LeavesOthers p k cells
