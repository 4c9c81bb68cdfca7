-- What a tree of a problem keeps at a variable.
use Rattle.std.proofs.Common.{◌≡◌, ℕ, ◌<◌, List, [], length, get_or, sym, ap, subst, ◌∙◌, arith}
use Rattle.std.specs.List.{All}
use Rattle.std.proofs.lemmas.List.{get_or_default}
use Rattle.std.proofs.lemmas.List.Elements.{All-filter}
use Rattle.std.proofs.lemmas.List.FromFn.{get_or-map-range_with_len, length-map-range_with_len}
use Rattle.dcop_base.specs.Problem.{Dcop}
use Rattle.pseudotree.specs.Tree.{path_of, IsTree}
use Rattle.pseudotree.specs.Pseudotree.{RootedTree, IsPseudotreeOf, separator_at, separator_of, lower_of, touches}
use Rattle.pseudotree.proofs.TreeLaws.{ancestor}

-- what stands in a path is below the number of variables
pub path_below : (paths : List (List ℕ)) → IsTree paths → (v : ℕ) → All (λ u. u < length paths) (path_of paths v)
path_below paths tree v k d lt =
    subst (λ (x : ℕ). x < length paths) (sym (get_or_default (path_of paths v) k d 0 lt)) (ancestor paths tree v k lt).0

pub separator_is : (p : Dcop) (tree : RootedTree) → IsPseudotreeOf p tree → (v : ℕ) → v < length tree.paths → separator_at tree v ≡ separator_of p tree.paths v
separator_is p tree h v lt =
    ap (λ (xs : List (List ℕ)). get_or xs v []) h.separators ∙ get_or-map-range_with_len (separator_of p tree.paths) 0 (length tree.paths) v v [] lt (omega arith)

pub separator_below : (p : Dcop) (tree : RootedTree) → IsPseudotreeOf p tree → (v : ℕ) → v < length tree.paths → All (λ u. u < length tree.paths) (separator_at tree v)
separator_below p tree h v lt =
    subst (λ (xs : List ℕ). All (λ u. u < length tree.paths) xs) (sym (separator_is p tree h v lt))
    (All-filter (touches p tree.paths v) (λ u. u < length tree.paths) (path_of tree.paths v) (path_below tree.paths h.pseudotree.tree v))

pub lower_is : (p : Dcop) (tree : RootedTree) → IsPseudotreeOf p tree → (v : ℕ) → v < length tree.paths → get_or tree.lower v [] ≡ lower_of p tree.paths v
lower_is p tree h v lt =
    ap (λ (xs : List (List ℕ)). get_or xs v []) h.lower ∙ get_or-map-range_with_len (lower_of p tree.paths) 0 (length tree.paths) v v [] lt (omega arith)

pub length-lower : (p : Dcop) (tree : RootedTree) → IsPseudotreeOf p tree → length tree.lower ≡ length tree.paths
length-lower p tree h = ap length h.lower ∙ length-map-range_with_len (lower_of p tree.paths) 0 (length tree.paths)

-- the same bound, by the number of sizes
pub all_sized : (xs : List ℕ) (m n : ℕ) → m ≡ n → All (λ u. u < m) xs → All (λ u. u < n) xs
all_sized xs m n e all = subst (λ (k : ℕ). All (λ u. u < k) xs) e all
