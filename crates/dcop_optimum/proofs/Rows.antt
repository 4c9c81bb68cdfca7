-- Worked rows: a triangle a, b, c with a tail d, which are 0, 1, 2 and 3, and its certificate.
use Rattle.std.proofs.Common.{◌≡◌, ℕ, ◌+◌, List, [], ◌∷◌, map, refl}
use Rattle.std.specs.List.{sum_by, range_with_len}
use Rattle.dcop_base.specs.Table.{CostTable}
use Rattle.dcop_base.specs.Problem.{Dcop, cost}
use Rattle.pseudotree.specs.Tree.{children_of}
use Rattle.pseudotree.specs.Pseudotree.{separator_of}
use Rattle.dcop_base.specs.Values.{cell_with, cost_with, with_own}
use Rattle.dcop_optimum.specs.Subtree.{own_tables_of, subtree_tables_of}
use Rattle.dcop_optimum.specs.TreeOptimum.{in_preorder}
use Rattle.dcop_optimum.specs.Certificate.{value_by, util_of, tables_on_path}

-- a table of two variables with two values each, with the cells 1 2 2 0
abbrev of_two : ℕ → ℕ → CostTable
of_two u v = record { scope = u ∷ v ∷ []; sizes = 2 ∷ 2 ∷ []; cells = 1 ∷ 2 ∷ 2 ∷ 0 ∷ [] }

abbrev tailed : Dcop
tailed = record { sizes = 2 ∷ 2 ∷ 2 ∷ 2 ∷ []; tables = of_two 0 1 ∷ of_two 0 2 ∷ of_two 1 2 ∷ of_two 1 3 ∷ []; joints = [] }

-- the depth-first tree: c and d are children of b
abbrev tree : List (List ℕ)
tree = [] ∷ (0 ∷ []) ∷ (0 ∷ 1 ∷ []) ∷ (0 ∷ 1 ∷ []) ∷ []

-- a tree in which d is a child of c
abbrev other_tree : List (List ℕ)
other_tree = [] ∷ (0 ∷ []) ∷ (0 ∷ 1 ∷ []) ∷ (0 ∷ 1 ∷ 2 ∷ []) ∷ []

abbrev scopes : List (List ℕ)
scopes = [] ∷ (0 ∷ []) ∷ (0 ∷ 1 ∷ []) ∷ (1 ∷ []) ∷ []

abbrev cells : List (List ℕ)
cells = (0 ∷ []) ∷ (4 ∷ 0 ∷ []) ∷ (2 ∷ 2 ∷ 2 ∷ 0 ∷ []) ∷ (1 ∷ 0 ∷ []) ∷ []

-- what a cell of i at these values of its scope may be at most, by the value d of i
abbrev most : List (List ℕ) → ℕ → List ℕ → ℕ → ℕ
most paths i values d =
    let value : ℕ → ℕ = with_own i d (value_by (util_of tailed scopes cells i).scope values) in
    cost_with (tables_on_path tailed paths i) value + sum_by (λ c. cell_with (util_of tailed scopes cells c) value) (children_of paths i)

pub separators_are : map (separator_of tailed tree) (range_with_len 0 4) ≡ scopes
separators_are = refl

pub own_of_c : own_tables_of tailed tree 2 ≡ of_two 0 2 ∷ of_two 1 2 ∷ []
own_of_c = refl

pub subtree_of_b : subtree_tables_of tailed tree 1 ≡ tailed.tables
subtree_of_b = refl

-- the cells of c are the lesser of 2 and 4, 3 and 2, 3 and 2, 4 and 0
pub most_of_c : map (λ values. map (most tree 2 values) (0 ∷ 1 ∷ [])) ((0 ∷ 0 ∷ []) ∷ (0 ∷ 1 ∷ []) ∷ (1 ∷ 0 ∷ []) ∷ (1 ∷ 1 ∷ []) ∷ []) ≡ (2 ∷ 4 ∷ []) ∷ (3 ∷ 2 ∷ []) ∷ (3 ∷ 2 ∷ []) ∷ (4 ∷ 0 ∷ []) ∷ []
most_of_c = refl

-- and those of b the lesser of 4 and 4, 5 and 0
pub most_of_b : map (λ values. map (most tree 1 values) (0 ∷ 1 ∷ [])) ((0 ∷ []) ∷ (1 ∷ []) ∷ []) ≡ (4 ∷ 4 ∷ []) ∷ (5 ∷ 0 ∷ []) ∷ []
most_of_b = refl

-- with d below c, the cell 4 of b at value 0 of a would be too great
pub most_of_b_forged : most other_tree 1 (0 ∷ []) 0 ≡ 3
most_of_b_forged = refl

-- the root's cell is what the values cost
pub ones_cost : cost tailed (1 ∷ 1 ∷ 1 ∷ 1 ∷ []) ≡ 0
ones_cost = refl

-- the preorder is a, b, c, d
pub preorder_values : in_preorder tree (5 ∷ 6 ∷ 7 ∷ 8 ∷ []) ≡ 5 ∷ 6 ∷ 7 ∷ 8 ∷ []
preorder_values = refl
