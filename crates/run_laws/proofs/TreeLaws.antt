-- A slice has the graph of its problem, and so its trees.
use Rattle.std.proofs.Common.{◌≡◌, ℕ, zero, suc, Bool, not, ◌&&◌, ◌||◌, eqb, List, [], ◌∷◌, ◌++◌, length, map, Option, refl, sym, ap, ap₂, ◌∙◌, arith}
use Rattle.std.proofs.Math.Path.{fun_ext}
use Rattle.std.specs.List.{list_any, filter, find, range_with_len}
use Rattle.dcop_base.specs.Table.{CostTable, has}
use Rattle.dcop_base.specs.Problem.{Dcop}
use Rattle.dcop_base.specs.Graph.{share_table, are_joined, are_neighbours, neighbours}
use Rattle.cost_table.proofs.ProblemCutLaws.{length-ones_at}
use Rattle.pseudotree.specs.Tree.{path_of, is_above}
use Rattle.pseudotree.specs.Pseudotree.{IsPseudotree, IsLinked, RootedTree, IsPseudotreeOf, is_within, separator_of, lower_of}
use Rattle.pseudotree.specs.DepthFirst.{Visit, is_seen, and_next, visit, path_in, dfs}
use Rattle.run_laws.specs.Slice.{slice_table, slice_of}
use Rattle.run_laws.specs.Trees.{HasTreesOf, SlicesKeepTrees}

-- cut tables have the same scopes
share-sliced : (cut vs : List ℕ) (ts : List CostTable) (u v : ℕ) → share_table (map (slice_table cut vs) ts) u v ≡ share_table ts u v
share-sliced cut vs [] u v = refl
share-sliced cut vs (t ∷ ts) u v = ap (λ (b : Bool). (has t.scope u && has t.scope v) || b) (share-sliced cut vs ts u v)

pub graph-sliced : (p : Dcop) (cut vs : List ℕ) (u v : ℕ) → are_neighbours (slice_of p cut vs) u v ≡ are_neighbours p u v
graph-sliced p cut vs u v = ap (λ (b : Bool). not (eqb u v) && (b || are_joined p.joints u v)) (share-sliced cut vs p.tables u v)

pub edges-sliced : (p : Dcop) (cut vs : List ℕ) → are_neighbours (slice_of p cut vs) ≡ are_neighbours p
edges-sliced p cut vs = fun_ext (λ u. fun_ext (λ v. graph-sliced p cut vs u v))

-- what two problems have in common that have the same graph
module _ (p q : Dcop) (count : length q.sizes ≡ length p.sizes) (graph : (u v : ℕ) → are_neighbours q u v ≡ are_neighbours p u v) where
  edges : are_neighbours q ≡ are_neighbours p
  edges = fun_ext (λ u. fun_ext (λ v. graph u v))

  separators : (paths : List (List ℕ)) (i : ℕ) → separator_of q paths i ≡ separator_of p paths i
  separators paths i =
      ap (λ (edge : ℕ → ℕ → Bool). filter (λ a. list_any (λ v. is_within paths i v && edge v a) (range_with_len 0 (length paths))) (path_of paths i)) edges

  around : (v : ℕ) → neighbours q v ≡ neighbours p v
  around v = ap₂ (λ (edge : ℕ → ℕ → Bool) (n : ℕ). filter (edge v) (range_with_len 0 n)) edges count

  lowers : (paths : List (List ℕ)) (i : ℕ) → lower_of q paths i ≡ lower_of p paths i
  lowers paths i = ap (λ (vs : List ℕ). filter (is_above paths i) vs) (around i)

  visits : (steps v : ℕ) (path : List ℕ) (seen : List Visit) → visit q steps v path seen ≡ visit p steps v path seen
  visits zero v path seen = refl
  visits (suc steps) v path seen =
      ap₂ (λ (o : Option ℕ) (go : ℕ → List Visit). and_next o seen go)
      (ap (λ (vs : List ℕ). find (λ w. not (is_seen seen w)) vs) (around v))
      (fun_ext (λ w.
      let below : List ℕ = path ++ (v ∷ []) in
      let more : List Visit = seen ++ (record { var = w; path = below } ∷ []) in
      visits steps v path (visit q steps w below more) ∙ ap (visit p steps v path) (visits steps w below more)))

  searches : dfs q ≡ dfs p
  searches =
      ap₂ (λ (seen : List Visit) (n : ℕ). map (path_in seen) (range_with_len 0 n))
      (visits (length q.sizes) 0 [] (record { var = 0; path = [] } ∷ []) ∙ ap (λ (n : ℕ). visit p n 0 [] (record { var = 0; path = [] } ∷ [])) count)
      count

  to_pseudotree : (paths : List (List ℕ)) → IsPseudotree p paths → IsPseudotree q paths
  to_pseudotree paths h = record {
    sized = h.sized ∙ sym count;
    tree = h.tree;
    in_line = λ u v lu lv e. h.in_line u v (omega (arith, lu, count)) (omega (arith, lv, count)) (sym (graph u v) ∙ e);
  }

  to_linked : (paths : List (List ℕ)) → IsLinked p paths → IsLinked q paths
  to_linked paths h v u e = graph v u ∙ h v u e

  to_tree : (tree : RootedTree) → IsPseudotreeOf p tree → IsPseudotreeOf q tree
  to_tree tree h = record {
    pseudotree = to_pseudotree tree.paths h.pseudotree;
    separators = h.separators ∙ ap (λ (f : ℕ → List ℕ). map f (range_with_len 0 (length tree.paths))) (fun_ext (λ i. sym (separators tree.paths i)));
    lower = h.lower ∙ ap (λ (f : ℕ → List ℕ). map f (range_with_len 0 (length tree.paths))) (fun_ext (λ i. sym (lowers tree.paths i)));
  }

same-trees : (p q : Dcop) → length q.sizes ≡ length p.sizes → ((u v : ℕ) → are_neighbours q u v ≡ are_neighbours p u v) → HasTreesOf p q
same-trees p q count graph = record {
  count = count;
  graph = graph;
  pseudotree = λ paths. (to_pseudotree p q count graph paths, to_pseudotree q p (sym count) (λ u v. sym (graph u v)) paths);
  linked = λ paths. (to_linked p q count graph paths, to_linked q p (sym count) (λ u v. sym (graph u v)) paths);
  tree = λ tree. (to_tree p q count graph tree, to_tree q p (sym count) (λ u v. sym (graph u v)) tree);
  separator = separators p q count graph;
  lower = lowers p q count graph;
  depth_first = searches p q count graph;
}

pub slices_keep_trees : SlicesKeepTrees
slices_keep_trees p cut vs = same-trees p (slice_of p cut vs) (length-ones_at cut p.sizes) (graph-sliced p cut vs)
