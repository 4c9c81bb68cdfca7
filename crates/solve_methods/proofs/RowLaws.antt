-- The nodes of a tree: in preorder stand its variables alone, and each node names only variables.
use Rattle.std.proofs.Common.{◌≡◌, ℕ, zero, suc, ◌<◌, eqb, List, [], ◌∷◌, map, length, get_or, Option, Some, None, IfSome, refl, sym, ap, subst, ◌∙◌}
use Rattle.std.specs.List.{All, flat_map}
use Rattle.std.proofs.lemmas.List.Elements.{All-nil, All-cons, All-head, All-tail, All-append, All-map, All-filter}
use Rattle.dcop_base.specs.Problem.{Dcop}
use Rattle.pseudotree.specs.Tree.{path_of, parent_of, children_of, is_variable, IsTree}
use Rattle.pseudotree.specs.Preorder.{subtree, roots_of, preorder_of}
use Rattle.pseudotree.specs.Pseudotree.{touches, separator_of, separator_at, RootedTree, IsPseudotreeOf}
use Rattle.pseudotree.proofs.OrderLaws.{filter_below}
use Rattle.pseudotree.proofs.PlaceLaws.{path_below, separator_is}
use Rattle.solve_report.specs.Tree.{IsNamedRow}
use Rattle.solve_methods.specs.Tree.{row_with, rows_with, rows_of}

flat_map_below : (f : ℕ → List ℕ) (n : ℕ) (xs : List ℕ) → ((v : ℕ) → v < n → All (λ w. w < n) (f v)) → All (λ w. w < n) xs → All (λ w. w < n) (flat_map f xs)
flat_map_below f n [] each all = All-nil (λ w. w < n)
flat_map_below f n (x ∷ xs) each all =
    All-append (λ w. w < n) (f x) (flat_map f xs) (each x (All-head (λ w. w < n) x xs all)) (flat_map_below f n xs each (All-tail (λ w. w < n) x xs all))

subtree_below : (children : ℕ → List ℕ) (n levels v : ℕ) → ((u : ℕ) → All (λ w. w < n) (children u)) → v < n → All (λ w. w < n) (subtree children levels v)
subtree_below children n zero v each lt = All-cons (λ w. w < n) v [] lt (All-nil (λ w. w < n))
subtree_below children n (suc k) v each lt =
    All-cons (λ w. w < n) v (flat_map (subtree children k) (children v)) lt
    (flat_map_below (subtree children k) n (children v) (λ u l. subtree_below children n k u each l) (each v))

-- in preorder stand variables of the tree
pub preorder_below : (paths : List (List ℕ)) → All (λ w. w < length paths) (preorder_of paths)
preorder_below paths =
    flat_map_below (subtree (children_of paths) (length paths)) (length paths) (roots_of paths)
    (λ v lt. subtree_below (children_of paths) (length paths) (length paths) v (λ u. filter_below (λ c. is_variable u (parent_of paths c)) (length paths)) lt)
    (filter_below (λ v. eqb (length (path_of paths v)) 0) (length paths))

pub preorder_item : (paths : List (List ℕ)) (xs : List ℕ) (k v : ℕ) → xs ≡ preorder_of paths → k < length xs → v ≡ get_or xs k v → v < length paths
preorder_item paths xs k v e lt is =
    subst (λ (x : ℕ). x < length paths) (sym (is ∙ ap (λ (ys : List ℕ). get_or ys k v) e))
    (preorder_below paths k v (subst (λ (ys : List ℕ). k < length ys) e lt))

-- a node of a tree names only variables
row_named : (p : Dcop) (paths : List (List ℕ)) → IsTree paths → (v : ℕ) → v < length paths → IsNamedRow (length paths) (row_with (separator_of p paths) paths v)
row_named p paths tree v lt = record {
  own = lt;
  parent = parent_named (parent_of paths v) refl;
  separator = All-filter (touches p paths v) (λ u. u < length paths) (path_of paths v) (path_below paths tree v);
} where
  parent_named : (o : Option ℕ) → parent_of paths v ≡ o → IfSome o (λ u. u < length paths)
  parent_named None is = tt
  parent_named (Some u) is = (tree.nested v u is).0

pub rows_named : (p : Dcop) (paths : List (List ℕ)) → IsTree paths → All (IsNamedRow (length paths)) (rows_of p paths)
rows_named p paths tree =
    All-map (IsNamedRow (length paths)) (row_with (separator_of p paths) paths) (preorder_of paths)
    (λ k d lt. row_named p paths tree (get_or (preorder_of paths) k d) (preorder_below paths k d lt))

rows_alike : (f g : ℕ → List ℕ) (paths : List (List ℕ)) (vs : List ℕ) → ((v : ℕ) → v < length paths → f v ≡ g v) → All (λ v. v < length paths) vs
    → map (row_with f paths) vs ≡ map (row_with g paths) vs
rows_alike f g paths [] same all = refl
rows_alike f g paths (v ∷ vs) same all =
    let here = same v (All-head (λ w. w < length paths) v vs all) in
    let rest = rows_alike f g paths vs same (All-tail (λ w. w < length paths) v vs all) in cc

-- the nodes as a tree of a problem keeps them are those of the definition
pub rows_same : (p : Dcop) (tree : RootedTree) → IsPseudotreeOf p tree → rows_with (separator_at tree) tree.paths ≡ rows_of p tree.paths
rows_same p tree is =
    rows_alike (separator_at tree) (separator_of p tree.paths) tree.paths (preorder_of tree.paths) (λ v lt. separator_is p tree is v lt) (preorder_below tree.paths)
