-- The first optimum of a tree, and how it is chosen from the root down.
use Rattle.std.specs.Prelude.{◌≡◌, ℕ, ◌<◌, ◌≤◌, List, length, slice_index}
use Rattle.dcop_base.specs.Table.{values_at}
use Rattle.dcop_base.specs.Problem.{Dcop, IsAssignment, cost}
use Rattle.dcop_base.specs.Whole.{IsProblem}
use Rattle.pseudotree.specs.Preorder.{preorder_of}
use Rattle.pseudotree.specs.Pseudotree.{IsPseudotree}
use Rattle.dcop_optimum.specs.Optimum.{IsOptimum, IsBefore}
use Rattle.dcop_optimum.specs.Decomposition.{AreChildOptima, best_cost_at}

-- the values of an assignment, in the tree's preorder
abbrev pub in_preorder : List (List ℕ) → List ℕ → List ℕ
in_preorder paths values = values_at (preorder_of paths) values

-- the first optimum of a tree: it costs the optimum, and no assignment whose values in preorder come before its own does
pub record IsFirstOptimumOf (p : Dcop) (paths : List (List ℕ)) (values : List ℕ) : Type 0 where
  pub assignment : IsAssignment p values
  pub optimal : IsOptimum p (cost p values)
  pub first : (other : List ℕ) → IsAssignment p other → cost p other ≡ cost p values → ¬ IsBefore (in_preorder paths other) (in_preorder paths values)

-- a tree has exactly one first optimum
pub record HasOneFirstOptimum (p : Dcop) (paths : List (List ℕ)) : Type 0 where
  pub some : (values : List ℕ) × IsFirstOptimumOf p paths values
  pub one : (a b : List ℕ) → IsFirstOptimumOf p paths a → IsFirstOptimumOf p paths b → a ≡ b

-- every pseudotree of a problem has exactly one first optimum
abbrev pub FirstOptimaOfTreesAreOne : Type 0
FirstOptimaOfTreesAreOne = (p : Dcop) (paths : List (List ℕ)) → IsProblem p → IsPseudotree p paths → HasOneFirstOptimum p paths

-- the lowest of the numbers below n at which f is least
pub record IsLowestLeast (n : ℕ) (f : ℕ → ℕ) (d : ℕ) : Type 0 where
  pub within : d < n
  pub least : (e : ℕ) → e < n → f d ≤ f e
  pub lowest : (e : ℕ) → e < d → f d < f e

-- i has the lowest value at which its own tables and its children's subtrees cost least, given the values of its ancestors
pub record IsBestChoice (p : Dcop) (paths : List (List ℕ)) (values : List ℕ) (i : ℕ) : Type 0 where
  pub optima : ℕ → ℕ → ℕ
  pub are_optima : AreChildOptima p paths i (slice_index values) optima
  pub chosen : IsLowestLeast (slice_index p.sizes i) (best_cost_at p paths i (slice_index values) optima) (slice_index values i)

-- if each variable of a pseudotree has its best value given the values of its ancestors, the values are the first optimum of the tree
abbrev pub BestChoicesAreFirst : Type 0
BestChoicesAreFirst = (p : Dcop) (paths : List (List ℕ)) (values : List ℕ) → IsProblem p → IsPseudotree p paths → length values ≡ length p.sizes
    → ((i : ℕ) → i < length p.sizes → IsBestChoice p paths values i) → IsFirstOptimumOf p paths values
