-- Why parents do not form a pseudotree of a problem: the first reason, in the order of the checks.
use Rattle.std.specs.Prelude.{◌≡◌, ◌≢◌, ℕ, ◌<◌, ◌≤◌, true, false, List, [], ◌∷◌, map, length, Option, Some, None, is_none, slice_index_or}
use Rattle.std.specs.List.{count_by, range_with_len}
use Rattle.dcop_base.specs.Problem.{Dcop}
use Rattle.dcop_base.specs.Graph.{are_neighbours}
use Rattle.pseudotree.specs.Tree.{IsTree, parent_of}
use Rattle.pseudotree.specs.Pseudotree.{are_in_line}
use Rattle.pseudotree.specs.declared.fault.TreeFault.{TreeFault}
use Rattle.pseudotree.specs.declared.fault.TreeFault.TheVariants.{Roots, Loop, Pair, NoMemory}

-- the parent that the list gives to a variable
abbrev pub parent_at : List (Option ℕ) → ℕ → Option ℕ
parent_at parents v = slice_index_or parents v None

-- one entry for each variable of the problem, and each parent is one of its variables
pub record AreParents (p : Dcop) (parents : List (Option ℕ)) : Type 0 where
  pub sized : length parents ≡ length p.sizes
  pub known : (v u : ℕ) → parent_at parents v ≡ Some u → u < length p.sizes

-- the parents in a tree, one entry for each variable
abbrev pub parents_of : List (List ℕ) → List (Option ℕ)
parents_of paths = map (parent_of paths) (range_with_len 0 (length paths))

-- the number of variables without a parent
abbrev pub root_count : List (Option ℕ) → ℕ
root_count parents = count_by is_none parents

-- these are the parent of v, its parent, and so on up to a variable without a parent
abbrev pub IsClimb : List (Option ℕ) → ℕ → List ℕ → Type 0
IsClimb parents v [] = parent_at parents v ≡ None
IsClimb parents v (u ∷ us) = (parent_at parents v ≡ Some u) × IsClimb parents u us

-- the parents of v reach a variable without a parent
abbrev pub ReachesRoot : List (Option ℕ) → ℕ → Type 0
ReachesRoot parents v = (us : List ℕ) × IsClimb parents v us

-- the lowest variable whose parents do not reach a root
pub record IsFirstLoop (parents : List (Option ℕ)) (var : ℕ) : Type 0 where
  pub within : var < length parents
  pub loops : ¬ ReachesRoot parents var
  pub first : (v : ℕ) → v < var → ReachesRoot parents v

-- two variables of one table or joint, the lower one first, that are not ancestor and descendant
pub record IsSplit (p : Dcop) (paths : List (List ℕ)) (u v : ℕ) : Type 0 where
  pub ordered : u < v
  pub within : v < length p.sizes
  pub neighbours : are_neighbours p u v ≡ true
  pub apart : are_in_line paths u v ≡ false

-- the least such pair: by the lower variable, and then by the higher one
pub record IsLeastSplit (p : Dcop) (paths : List (List ℕ)) (one other : ℕ) : Type 0 where
  pub split : IsSplit p paths one other
  pub lower : (u v : ℕ) → IsSplit p paths u v → one ≤ u
  pub higher : (v : ℕ) → IsSplit p paths one v → other ≤ v

-- the parents are those of a tree with these paths, and this is its least pair of neighbours that are not ancestor and descendant
pub record SplitsAt (p : Dcop) (parents : List (Option ℕ)) (one other : ℕ) : Type 0 where
  pub paths : List (List ℕ)
  pub tree : IsTree paths
  pub parents_are : parents ≡ parents_of paths
  pub least : IsLeastSplit p paths one other

-- the fault is the first reason why parents do not form a pseudotree, or that memory ran out, which says nothing of the parents
abbrev pub IsFirstFault : Dcop → List (Option ℕ) → TreeFault → Type 0
IsFirstFault p parents (Roots count) = (root_count parents ≡ count) × (count ≢ 1)
IsFirstFault p parents (Loop var) = (root_count parents ≡ 1) × IsFirstLoop parents var
IsFirstFault p parents (Pair one other) = SplitsAt p parents one other
IsFirstFault p parents NoMemory = Unit {0}
