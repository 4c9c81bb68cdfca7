-- Bounds that enclose a subtree optimum, given some values of the ancestors.
use Rattle.std.specs.Prelude.{◌≡◌, ℕ, ◌≤◌, true, List, Option, Some, None}
use Rattle.dcop_base.specs.Problem.{Dcop}
use Rattle.dcop_base.specs.Whole.{IsProblem}
use Rattle.pseudotree.specs.Tree.{is_above, IsRoot}
use Rattle.pseudotree.specs.Pseudotree.{IsPseudotree}
use Rattle.dcop_optimum.specs.Optimum.{IsOptimum}
use Rattle.dcop_optimum.specs.Subtree.{AreValuesAbove, IsSubtreeOptimum}

-- a number is at most an upper bound, if there is one
abbrev pub IsAtMost : ℕ → Option ℕ → Type 0
IsAtMost x None = Unit {0}
IsAtMost x (Some upper) = x ≤ upper

-- the proper ancestors of i have the values that a context gives them; `given v` is the value of v in the context, or none
abbrev pub AreGivenAbove : List (List ℕ) → ℕ → (ℕ → Option ℕ) → (ℕ → ℕ) → Type 0
AreGivenAbove paths i given value = (v d : ℕ) → is_above paths v i ≡ true → given v ≡ Some d → value v ≡ d

-- the bounds enclose i under a context: for all values of its proper ancestors that agree with the context, the subtree optimum is between them
pub record Encloses (p : Dcop) (paths : List (List ℕ)) (i : ℕ) (given : ℕ → Option ℕ) (lower : ℕ) (upper : Option ℕ) : Type 0 where
  pub low : (value : ℕ → ℕ) → AreValuesAbove p paths i value → AreGivenAbove paths i given value
      → (m : ℕ) → IsSubtreeOptimum p paths i value m → lower ≤ m
  pub high : (value : ℕ → ℕ) → AreValuesAbove p paths i value → AreGivenAbove paths i given value
      → (m : ℕ) → IsSubtreeOptimum p paths i value m → IsAtMost m upper

-- if the subtree optimum of the root of a pseudotree is between two bounds, so is the optimum of
-- the problem
abbrev pub RootBoundsEncloseOptima : Type 0
RootBoundsEncloseOptima = (p : Dcop) (paths : List (List ℕ)) (root : ℕ) (given : ℕ → Option ℕ) (lower : ℕ) (upper : Option ℕ) → IsProblem p → IsPseudotree p paths → IsRoot paths root
    → Encloses p paths root given lower upper → (m : ℕ) → IsOptimum p m → (lower ≤ m) × IsAtMost m upper
