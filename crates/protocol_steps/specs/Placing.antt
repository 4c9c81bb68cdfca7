-- The places that an agent may be given, in view of what it knows of the problem.
use Rattle.std.specs.Prelude.{◌≡◌, ℕ, ◌<◌, ◌≤◌, true, false, not, List, length}
use Rattle.std.specs.List.{All, zip}
use Rattle.std.specs.List.Sorted.{IsStrictlyIncreasing}
use Rattle.dcop_base.specs.Table.{has, has_repeat}
use Rattle.dcop_base.specs.Problem.{Dcop}
use Rattle.dcop_base.specs.Whole.{IsProblem}
use Rattle.dcop_base.specs.Knowledge.{private_of}
use Rattle.dcop_base.specs.declared.knowledge.Private.{Private}
use Rattle.dcop_base.specs.Limits.{variable_limit}
use Rattle.pseudotree.specs.Pseudotree.{IsPseudotree, IsLinked}
use Rattle.pseudotree.specs.Place.{IsPlaceOf}
use Rattle.pseudotree.specs.declared.agent.Place.{Place}
use Rattle.adopt_context.specs.Context.{value_in}
use Rattle.protocol_steps.specs.TokenStep.{most_others}
use Rattle.protocol_steps.specs.Knowledge.{IsSize}
use Rattle.protocol_steps.specs.Laws.{IsParentBeside}

-- a path that an agent may have: it is not too long, its variables are distinct and do not include the agent, and each has one size
pub record IsPathOf (me : ℕ) (path path_sizes : List ℕ) : Type 0 where
  pub few : length path ≤ most_others
  pub apart : has_repeat path ≡ false
  pub without : has path me ≡ false
  pub below : All (λ u. u < variable_limit) path
  pub sized : length path_sizes ≡ length path
  pub sizes : All IsSize path_sizes

-- a place that fits what an agent knows: each neighbour is either in the path, with the size that is known of it, or among the lower neighbours; the parent is a neighbour; and the children are lower neighbours
pub record IsPlaceFor (own : Private) (place : Place) : Type 0 where
  pub me : place.me ≡ own.me
  pub path : IsPathOf own.me place.path place.path_sizes
  pub agree : (u : ℕ) → has own.neighbours u ≡ true → has place.path u ≡ true
      → value_in (zip place.path place.path_sizes) u ≡ value_in (zip own.neighbours own.neighbour_sizes) u
  pub split : (u : ℕ) → has own.neighbours u ≡ true → has place.path u ≡ not (has place.lower u)
  pub parent : IsParentBeside own.neighbours place.path
  pub lower : IsStrictlyIncreasing place.lower × All (λ u. has own.neighbours u ≡ true) place.lower
  pub children : IsStrictlyIncreasing place.children × All (λ u. has place.lower u ≡ true) place.children

-- a place in a linked pseudotree of a problem fits what the agent is given of the problem
abbrev pub PlacesFit : Type 0
PlacesFit = (p : Dcop) (paths : List (List ℕ)) (i : ℕ) (place : Place) → IsProblem p → IsPseudotree p paths → IsLinked p paths → i < length p.sizes
    → IsPlaceOf p paths i place → IsPlaceFor (private_of p i) place
