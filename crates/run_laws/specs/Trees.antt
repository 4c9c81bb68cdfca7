-- What a slice keeps of its problem: the graph, and with it the trees.
use Rattle.std.specs.Prelude.{◌≡◌, ℕ, ◌↔◌, List, length}
use Rattle.dcop_base.specs.Problem.{Dcop}
use Rattle.dcop_base.specs.Graph.{are_neighbours}
use Rattle.pseudotree.specs.DepthFirst.{dfs}
use Rattle.pseudotree.specs.Pseudotree.{IsPseudotree, IsLinked, RootedTree, IsPseudotreeOf, separator_of, lower_of}
use Rattle.run_laws.specs.Slice.{slice_of}

-- two problems have the same number of variables and the same graph, so they have the same trees, with the same separators
pub record HasTreesOf (p q : Dcop) : Type 0 where
  pub count : length q.sizes ≡ length p.sizes
  pub graph : (u v : ℕ) → are_neighbours q u v ≡ are_neighbours p u v
  pub pseudotree : (paths : List (List ℕ)) → IsPseudotree p paths ↔ IsPseudotree q paths
  pub linked : (paths : List (List ℕ)) → IsLinked p paths ↔ IsLinked q paths
  pub tree : (tree : RootedTree) → IsPseudotreeOf p tree ↔ IsPseudotreeOf q tree
  pub separator : (paths : List (List ℕ)) (i : ℕ) → separator_of q paths i ≡ separator_of p paths i
  pub lower : (paths : List (List ℕ)) (i : ℕ) → lower_of q paths i ≡ lower_of p paths i
  pub depth_first : dfs q ≡ dfs p

-- a slice has the graph and the trees of its problem
abbrev pub SlicesKeepTrees : Type 0
SlicesKeepTrees = (p : Dcop) (cut values : List ℕ) → HasTreesOf p (slice_of p cut values)
