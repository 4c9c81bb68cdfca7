-- Problems with the same sizes, joints and scopes: their graphs, trees and widths are the same.
use Rattle.std.proofs.Common.{◌≡◌, ℕ, zero, suc, ◌*◌, ◌<◌, Bool, true, not, cond, ◌&&◌, ◌||◌, eqb, ltb, List, [], ◌∷◌, ◌++◌, map, length, get_or, Option, Some, None, refl, sym, ap, ap₂, subst, ◌∙◌}
use Rattle.std.proofs.Math.Path.{fun_ext}
use Rattle.std.specs.List.{filter, find, list_any, position, range_with_len, sum_by}
use Rattle.dcop_base.specs.Table.{CostTable, product}
use Rattle.dcop_base.specs.Problem.{Dcop}
use Rattle.dcop_base.specs.Graph.{are_neighbours, are_joined, neighbours}
use Rattle.dcop_base.specs.Limits.{joined_limit, sent_limit}
use Rattle.dcop_base.proofs.JointLaws.{share_table-scopes}
use Rattle.pseudotree.specs.Tree.{path_of, is_above, parent_of}
use Rattle.pseudotree.specs.Pseudotree.{is_within, are_in_line, separator_of, lower_of, IsPseudotree, IsLinked, IsPseudotreeOf, RootedTree}
use Rattle.pseudotree.specs.DepthFirst.{Visit, is_seen, and_next, visit, path_in, dfs}
use Rattle.pseudotree.specs.Width.{sent_cells, joined_cells, sent_by, sent_total, first_wide, told, wide_by, wide_of}
use Rattle.pseudotree.specs.declared.width.Wide.TheVariants.{Agent, Total}
use Rattle.edit_session.specs.Edits.{HaveSameTrees}

module _ (p : Dcop) (tables : List CostTable) (scopes : map (λ (t : CostTable). t.scope) tables ≡ map (λ (t : CostTable). t.scope) p.tables) where
  -- the problem with these tables
  abbrev pub q : Dcop
  q = record { sizes = p.sizes; tables = tables; joints = p.joints }

  near_same : are_neighbours q ≡ are_neighbours p
  near_same = fun_ext (λ u. fun_ext (λ v. ap (λ (b : Bool). not (eqb u v) && (b || are_joined p.joints u v)) (share_table-scopes tables p.tables scopes u v)))

  pub neighbours_same : (v : ℕ) → neighbours q v ≡ neighbours p v
  neighbours_same v = ap (λ (near : ℕ → ℕ → Bool). filter (near v) (range_with_len 0 (length p.sizes))) near_same

  visit_same : (steps v : ℕ) (path : List ℕ) (seen : List Visit) → visit q steps v path seen ≡ visit p steps v path seen
  visit_same zero v path seen = refl
  visit_same (suc steps) v path seen =
      let on : (Dcop) → ℕ → List Visit = λ r w. visit r steps w (path ++ (v ∷ [])) (seen ++ (record { var = w; path = path ++ (v ∷ []) } ∷ [])) in
      ap₂ (λ (next : Option ℕ) (go : ℕ → List Visit). and_next next seen go)
      (ap (λ (ns : List ℕ). find (λ w. not (is_seen seen w)) ns) (neighbours_same v))
      (fun_ext (λ w. visit_same steps v path (on q w)
      ∙ ap (visit p steps v path) (visit_same steps w (path ++ (v ∷ [])) (seen ++ (record { var = w; path = path ++ (v ∷ []) } ∷ [])))))

  pub trees_same : dfs q ≡ dfs p
  trees_same = ap (λ (seen : List Visit). map (path_in seen) (range_with_len 0 (length p.sizes))) (visit_same (length p.sizes) 0 [] (record { var = 0; path = [] } ∷ []))

  pub separators_same : (paths : List (List ℕ)) → separator_of q paths ≡ separator_of p paths
  separators_same paths =
      let by : (ℕ → ℕ → Bool) → ℕ → List ℕ = λ near i. filter (λ a. list_any (λ v. is_within paths i v && near v a) (range_with_len 0 (length paths))) (path_of paths i) in
      ap by near_same

  pub lower_same : (paths : List (List ℕ)) → lower_of q paths ≡ lower_of p paths
  lower_same paths = fun_ext (λ i. ap (λ (ns : List ℕ). filter (is_above paths i) ns) (neighbours_same i))

  pub pseudotree_same : (paths : List (List ℕ)) → IsPseudotree p paths → IsPseudotree q paths
  pseudotree_same paths is = record {
    sized = is.sized;
    tree = is.tree;
    in_line = subst (λ (near : ℕ → ℕ → Bool). (u v : ℕ) → u < length p.sizes → v < length p.sizes → near u v ≡ true → are_in_line paths u v ≡ true) (sym near_same) is.in_line;
  }

  tree_same : (tree : RootedTree) → IsPseudotreeOf p tree → IsPseudotreeOf q tree
  tree_same tree is = record {
    pseudotree = pseudotree_same tree.paths is.pseudotree;
    separators = is.separators ∙ ap (λ (f : ℕ → List ℕ). map f (range_with_len 0 (length tree.paths))) (sym (separators_same tree.paths));
    lower = is.lower ∙ ap (λ (f : ℕ → List ℕ). map f (range_with_len 0 (length tree.paths))) (sym (lower_same tree.paths));
  }

  linked_same : (paths : List (List ℕ)) → IsLinked p paths → IsLinked q paths
  linked_same paths is = subst (λ (near : ℕ → ℕ → Bool). (v u : ℕ) → parent_of paths v ≡ Some u → near v u ≡ true) (sym near_same) is

  sent_same : (paths : List (List ℕ)) (i : ℕ) → sent_cells q paths i ≡ sent_cells p paths i
  sent_same paths i = ap (λ (f : ℕ → List ℕ). product (map (λ (v : ℕ). get_or p.sizes v 0) (f i))) (separators_same paths)

  cells_same : (paths : List (List ℕ)) (i : ℕ) → joined_cells q paths i ≡ joined_cells p paths i
  cells_same paths i = ap (λ (n : ℕ). get_or p.sizes i 0 * n) (sent_same paths i)

  by_same : (paths : List (List ℕ)) → sent_by q paths ≡ sent_by p paths
  by_same paths = fun_ext (λ i. ap (λ (n : ℕ). cond (eqb (length (path_of paths i)) 0) 0 n) (sent_same paths i))

  total_same : (paths : List (List ℕ)) → sent_total q paths ≡ sent_total p paths
  total_same paths = ap (λ (f : ℕ → ℕ). sum_by f (range_with_len 0 (length paths))) (by_same paths)

  wide_by_same : (paths : List (List ℕ)) (o : Option ℕ) → wide_by q paths o ≡ wide_by p paths o
  wide_by_same paths (Some i) = ap (λ (n : ℕ). Some (Agent i (told n))) (cells_same paths i)
  wide_by_same paths None = ap (λ (n : ℕ). cond (ltb sent_limit n) (Some (Total (told n))) None) (total_same paths)

  wide_same : (paths : List (List ℕ)) → wide_of q paths ≡ wide_of p paths
  wide_same paths =
      wide_by_same paths (first_wide q paths)
      ∙ ap (wide_by p paths) (ap (λ (f : ℕ → ℕ). position (λ i. ltb joined_limit (f i)) (range_with_len 0 (length paths))) (fun_ext (cells_same paths)))

  pub same_trees : HaveSameTrees p q
  same_trees = record { trees = trees_same; pseudotree = tree_same; linked = linked_same; cells = cells_same; wide = wide_same }
