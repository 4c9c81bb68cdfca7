-- Subtree optima of a tree: the least cost of the tables that belong to a variable and its descendants.
use Rattle.std.specs.Prelude.{◌≡◌, ℕ, ◌<◌, ◌≤◌, Bool, true, false, List, Option, Some, None, slice_index}
use Rattle.std.specs.List.{filter}
use Rattle.dcop_base.specs.Table.{CostTable}
use Rattle.dcop_base.specs.Problem.{Dcop, IsAssignment}
use Rattle.dcop_base.specs.Whole.{IsProblem}
use Rattle.dcop_base.specs.Values.{cost_with}
use Rattle.pseudotree.specs.Tree.{is_variable, is_above}
use Rattle.pseudotree.specs.Pseudotree.{is_within}
use Rattle.pseudotree.specs.Owner.{owner_of}

-- whether a table's owner is i or a descendant of i
abbrev pub is_owner_within : List (List ℕ) → ℕ → Option ℕ → Bool
is_owner_within paths i None = false
is_owner_within paths i (Some v) = is_within paths i v

-- the own tables of i: those whose deepest variable is i
abbrev pub own_tables_of : Dcop → List (List ℕ) → ℕ → List CostTable
own_tables_of p paths i = filter (λ t. is_variable i (owner_of paths t.scope)) p.tables

-- the tables of the subtree of i: those whose deepest variable is i or a descendant of i
abbrev pub subtree_tables_of : Dcop → List (List ℕ) → ℕ → List CostTable
subtree_tables_of p paths i = filter (λ t. is_owner_within paths i (owner_of paths t.scope)) p.tables

-- every proper ancestor of i has a value below its size
abbrev pub AreValuesAbove : Dcop → List (List ℕ) → ℕ → (ℕ → ℕ) → Type 0
AreValuesAbove p paths i value = (v : ℕ) → is_above paths v i ≡ true → value v < slice_index p.sizes v

-- an assignment gives the proper ancestors of i these values
abbrev pub AgreesAbove : List (List ℕ) → ℕ → (ℕ → ℕ) → List ℕ → Type 0
AgreesAbove paths i value values = (v : ℕ) → is_above paths v i ≡ true → slice_index values v ≡ value v

-- the subtree optimum of i when its proper ancestors have these values: the tables of its subtree cost this much at some assignment with these values, and less at none
pub record IsSubtreeOptimum (p : Dcop) (paths : List (List ℕ)) (i : ℕ) (value : ℕ → ℕ) (least : ℕ) : Type 0 where
  pub attained : (values : List ℕ) × IsAssignment p values × AgreesAbove paths i value values
      × (cost_with (subtree_tables_of p paths i) (slice_index values) ≡ least)
  pub lowest : (values : List ℕ) → IsAssignment p values → AgreesAbove paths i value values
      → least ≤ cost_with (subtree_tables_of p paths i) (slice_index values)

-- i has exactly one subtree optimum at these values
pub record HasOneSubtreeOptimum (p : Dcop) (paths : List (List ℕ)) (i : ℕ) (value : ℕ → ℕ) : Type 0 where
  pub some : (least : ℕ) × IsSubtreeOptimum p paths i value least
  pub one : (c d : ℕ) → IsSubtreeOptimum p paths i value c → IsSubtreeOptimum p paths i value d → c ≡ d

-- every variable has exactly one subtree optimum, for all values of its proper ancestors
abbrev pub SubtreeOptimaAreOne : Type 0
SubtreeOptimaAreOne = (p : Dcop) (paths : List (List ℕ)) (i : ℕ) (value : ℕ → ℕ) → IsProblem p → AreValuesAbove p paths i value → HasOneSubtreeOptimum p paths i value
