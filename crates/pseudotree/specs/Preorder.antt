-- The preorder of a tree: each variable comes before its descendants, and children are in ascending order.
use Rattle.std.specs.Prelude.{ℕ, zero, suc, List, [], ◌∷◌, length, ◌==◌}
use Rattle.std.specs.List.{filter, flat_map, range_with_len}
use Rattle.pseudotree.specs.Tree.{path_of, children_of}

-- a variable and then the subtrees of its children, in their order, down to `levels` levels below it
abbrev pub subtree : (ℕ → List ℕ) → ℕ → ℕ → List ℕ
subtree children zero v = v ∷ []
subtree children (suc levels) v = v ∷ flat_map (subtree children levels) (children v)

-- the variables without a parent, ascending
abbrev pub roots_of : List (List ℕ) → List ℕ
roots_of paths = filter (λ v. length (path_of paths v) == 0) (range_with_len 0 (length paths))

-- the preorder: the whole subtree of the root, which has fewer levels than there are variables
abbrev pub preorder_of : List (List ℕ) → List ℕ
preorder_of paths = flat_map (subtree (children_of paths) (length paths)) (roots_of paths)
