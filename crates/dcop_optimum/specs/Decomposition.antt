-- The decomposition law: subtree optima form a recursion over the tree, and the root's is the optimum.
use Rattle.std.specs.Prelude.{◌≡◌, ℕ, ◌+◌, ◌<◌, ◌≤◌, ◌↔◌, true, ◌||◌, List, Some, length, slice_index}
use Rattle.std.specs.List.{sum_by, filter, list_any}
use Rattle.dcop_base.specs.Table.{has}
use Rattle.dcop_base.specs.Problem.{Dcop}
use Rattle.dcop_base.specs.Graph.{are_neighbours}
use Rattle.dcop_base.specs.Whole.{IsProblem}
use Rattle.pseudotree.specs.Tree.{path_of, parent_of, children_of, IsRoot, IsTree}
use Rattle.pseudotree.specs.Pseudotree.{IsPseudotree, separator_of}
use Rattle.dcop_optimum.specs.Optimum.{IsOptimum}
use Rattle.dcop_base.specs.Values.{cost_with, with_own}
use Rattle.dcop_optimum.specs.Subtree.{own_tables_of, AreValuesAbove, IsSubtreeOptimum}

-- the least of the numbers f 0 to f (n - 1)
pub record IsLeastBelow (n : ℕ) (f : ℕ → ℕ) (least : ℕ) : Type 0 where
  pub attained : (d : ℕ) × (d < n) × (f d ≡ least)
  pub lowest : (d : ℕ) → d < n → least ≤ f d

-- when i has the value d, each child c of i has the subtree optimum `optima d c`
abbrev pub AreChildOptima : Dcop → List (List ℕ) → ℕ → (ℕ → ℕ) → (ℕ → ℕ → ℕ) → Type 0
AreChildOptima p paths i value optima = (d c : ℕ) → d < slice_index p.sizes i → parent_of paths c ≡ Some i
    → IsSubtreeOptimum p paths c (with_own i d value) (optima d c)

-- the cost of the own tables of i when i has the value d, plus the children's subtree optima there
abbrev pub best_cost_at : Dcop → List (List ℕ) → ℕ → (ℕ → ℕ) → (ℕ → ℕ → ℕ) → ℕ → ℕ
best_cost_at p paths i value optima d = cost_with (own_tables_of p paths i) (with_own i d value) + sum_by (optima d) (children_of paths i)

-- a subtree optimum is the least, over the values of its variable, of the own tables' cost plus the children's subtree optima; the root's is the optimum of the problem
pub record Decomposes (p : Dcop) (paths : List (List ℕ)) : Type 0 where
  pub recursion : (i : ℕ) (value : ℕ → ℕ) (optima : ℕ → ℕ → ℕ) → i < length p.sizes → AreValuesAbove p paths i value
      → AreChildOptima p paths i value optima
      → (m : ℕ) → IsSubtreeOptimum p paths i value m ↔ IsLeastBelow (slice_index p.sizes i) (best_cost_at p paths i value optima) m
  pub at_root : (root : ℕ) (value : ℕ → ℕ) → IsRoot paths root → (m : ℕ) → IsSubtreeOptimum p paths root value m ↔ IsOptimum p m

-- the decomposition law: what `Decomposes` says holds in every pseudotree of every problem
abbrev pub DecompositionLaw : Type 0
DecompositionLaw = (p : Dcop) (paths : List (List ℕ)) → IsProblem p → IsPseudotree p paths → Decomposes p paths

-- a subtree optimum depends on the separator only: with the same values there it is the same
abbrev pub SubtreeOptimaReadSeparators : Type 0
SubtreeOptimaReadSeparators = (p : Dcop) (paths : List (List ℕ)) (i : ℕ) (value other : ℕ → ℕ) → IsProblem p → IsPseudotree p paths → i < length p.sizes
    → AreValuesAbove p paths i value → AreValuesAbove p paths i other
    → ((v : ℕ) → has (separator_of p paths i) v ≡ true → value v ≡ other v)
    → (m : ℕ) → IsSubtreeOptimum p paths i value m → IsSubtreeOptimum p paths i other m

-- separators form a recursion too: a separator consists of the variables of the path that are neighbours of the variable or in a child's separator
abbrev pub SeparatorsDecompose : Type 0
SeparatorsDecompose = (p : Dcop) (paths : List (List ℕ)) → IsTree paths → (i : ℕ)
    → separator_of p paths i ≡ filter (λ v. are_neighbours p i v || list_any (λ c. has (separator_of p paths c) v) (children_of paths i)) (path_of paths i)
