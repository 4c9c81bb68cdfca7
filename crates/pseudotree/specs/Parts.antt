-- What a tree stores besides its paths.
use Rattle.std.specs.Prelude.{◌≡◌, ℕ, ◌<◌, List, length, slice_index, slice_index_or}
use Rattle.pseudotree.specs.Tree.{path_of, children_of}
use Rattle.pseudotree.specs.Preorder.{preorder_of}

-- the lists are those of the children of each variable
pub record AreChildren (paths children : List (List ℕ)) : Type 0 where
  pub counted : length children ≡ length paths
  pub are : (v : ℕ) (none : List ℕ) → v < length paths → slice_index_or children v none ≡ children_of paths v

-- every variable in these lists has a list of its own
abbrev pub AreClosed : List (List ℕ) → Type 0
AreClosed lists = (v k : ℕ) → k < length (path_of lists v) → slice_index (path_of lists v) k < length lists

-- the children and the preorder are those of the paths, and each variable has a list for its separator
pub record AreParts (paths children separators : List (List ℕ)) (preorder : List ℕ) : Type 0 where
  pub children_are : AreChildren paths children
  pub preorder_is : preorder ≡ preorder_of paths
  pub separated : length separators ≡ length paths
