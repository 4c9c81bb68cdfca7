-- Climbs from a variable to the root, given a list of parents.
use Rattle.std.specs.Prelude.{◌≡◌, ℕ, ◌<◌, List, Option, Some, length, reverse}
use Rattle.dcop_base.specs.Problem.{Dcop}
use Rattle.pseudotree.specs.Tree.{path_of}
use Rattle.pseudotree.specs.Fault.{parent_at, IsClimb, IsFirstLoop, IsLeastSplit}
use Rattle.pseudotree.specs.declared.fault.TreeFault.{TreeFault}
use Rattle.pseudotree.specs.declared.fault.TreeFault.TheVariants.{Roots, Loop, Pair, NoMemory}

-- each parent is a variable of the list
abbrev pub AreKnown : List (Option ℕ) → Type 0
AreKnown parents = (v u : ℕ) → parent_at parents v ≡ Some u → u < length parents

-- the path leads from the root down to v: in reverse order it is the climb from v
abbrev pub LeadsTo : List (Option ℕ) → ℕ → List ℕ → Type 0
LeadsTo parents v path = IsClimb parents v (reverse path)

-- the paths are one for each variable, and each leads to its variable
pub record ArePaths (parents : List (Option ℕ)) (paths : List (List ℕ)) : Type 0 where
  pub counted : length paths ≡ length parents
  pub lead : (v : ℕ) → v < length parents → LeadsTo parents v (path_of paths v)

-- the fault is the lowest variable whose parents do not reach a root, or that memory ran out
abbrev pub IsLoopFault : List (Option ℕ) → TreeFault → Type 0
IsLoopFault parents (Roots count) = ⊥
IsLoopFault parents (Loop var) = IsFirstLoop parents var
IsLoopFault parents (Pair one other) = ⊥
IsLoopFault parents NoMemory = Unit {0}

-- the fault is the least pair of neighbours that are not ancestor and descendant, or that memory ran out
abbrev pub IsSplitFault : Dcop → List (List ℕ) → TreeFault → Type 0
IsSplitFault p paths (Roots count) = ⊥
IsSplitFault p paths (Loop var) = ⊥
IsSplitFault p paths (Pair one other) = IsLeastSplit p paths one other
IsSplitFault p paths NoMemory = Unit {0}
