-- What an agent knows of its place in a tree.
use Rattle.std.specs.Prelude.{◌≡◌, ℕ, List, map, slice_index}
use Rattle.dcop_base.specs.Problem.{Dcop}
use Rattle.pseudotree.specs.Tree.{path_of, children_of}
use Rattle.pseudotree.specs.Pseudotree.{lower_of}
use Rattle.pseudotree.specs.declared.agent.Place.{Place}

-- the sizes of these variables
abbrev pub sizes_of : Dcop → List ℕ → List ℕ
sizes_of p vs = map (slice_index p.sizes) vs

-- the place of variable i in a tree: its path with its sizes, its children and its lower neighbours
pub record IsPlaceOf (p : Dcop) (paths : List (List ℕ)) (i : ℕ) (place : Place) : Type 0 where
  pub me : place.me ≡ i
  pub path : place.path ≡ path_of paths i
  pub path_sizes : place.path_sizes ≡ sizes_of p (path_of paths i)
  pub children : place.children ≡ children_of paths i
  pub lower : place.lower ≡ lower_of p paths i
