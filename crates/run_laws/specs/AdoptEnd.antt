-- The law on the end of a run of ADOPT agents.
use Rattle.std.specs.Prelude.{◌≡◌, ℕ, ◌+◌, ◌<◌, ◌≤◌, true, List, map, length, Option, Some, None, if◌then◌else◌, slice_get, slice_index}
use Rattle.dcop_base.specs.Problem.{Dcop, IsAssignment, cost}
use Rattle.dcop_base.specs.Whole.{IsProblem}
use Rattle.pseudotree.specs.Tree.{is_above, IsRoot}
use Rattle.pseudotree.specs.Pseudotree.{IsPseudotree, IsLinked}
use Rattle.adopt_context.specs.Context.{value_in}
use Rattle.adopt_context.specs.Bounds.{cap}
use Rattle.protocol_steps.specs.declared.event.Event.{Event}
use Rattle.protocol_steps.specs.Network.{Network}
use Rattle.protocol_steps.specs.Effect.{has_ended}
use Rattle.protocol_steps.specs.Adopt.{AdoptView}
use Rattle.protocol_steps.specs.AdoptBounds.{lower_bound}
use Rattle.protocol_steps.specs.View.{AdoptKind, value_of}
use Rattle.dcop_optimum.specs.Optimum.{IsOptimum}
use Rattle.run_laws.specs.AdoptRun.{IsAdoptRun}

-- the values that the agents of a network have
abbrev pub values_of : Network → List ℕ
values_of end = map value_of end.views

-- the value of variable u if it is a proper ancestor of variable i, and otherwise none
abbrev pub ancestor_value : List (List ℕ) → List ℕ → ℕ → ℕ → Option ℕ
ancestor_value paths values i u = if is_above paths u i then Some (slice_index values u) else None

-- an agent knows exactly the values of the proper ancestors of its variable i
abbrev pub KnowsAncestors : List (List ℕ) → List ℕ → ℕ → AdoptView → Type 0
KnowsAncestors paths values i v = (u : ℕ) → value_in v.known u ≡ ancestor_value paths values i u

-- the root's threshold is at least the cost of the values, and at most its lower bound plus the error, cut off at the cap
abbrev pub IsRootThreshold : Dcop → ℕ → List ℕ → AdoptView → Type 0
IsRootThreshold p error values v = (cost p values ≤ v.threshold) × (v.threshold ≤ cap (lower_bound v + error))

-- what holds when all ADOPT agents of a run have ended: their values are an assignment; each agent
-- knows exactly its ancestors' values; the root's threshold is what `IsRootThreshold` says; and the
-- cost of the values is at most the optimum plus the error
pub record HoldsAtEnd (p : Dcop) (paths : List (List ℕ)) (error : ℕ) (end : Network) : Type 0 where
  pub assignment : IsAssignment p (values_of end)
  pub known : (i : ℕ) → i < length p.sizes → (v : AdoptView) × (slice_get end.views i ≡ Some (AdoptKind v)) × KnowsAncestors paths (values_of end) i v
  pub threshold : (root : ℕ) → IsRoot paths root → (v : AdoptView) × (slice_get end.views root ≡ Some (AdoptKind v)) × IsRootThreshold p error (values_of end) v
  pub near : (m : ℕ) → IsOptimum p m → cost p (values_of end) ≤ m + error

-- for every requested error, when all agents of a run of ADOPT on a linked pseudotree have ended,
-- what `HoldsAtEnd` says holds
abbrev pub AdoptEnds : Type 0
AdoptEnds = (p : Dcop) (paths : List (List ℕ)) (error : ℕ) → IsProblem p → IsPseudotree p paths → IsLinked p paths
    → (es : List Event) (end : Network) → IsAdoptRun p paths error es end → has_ended end ≡ true → HoldsAtEnd p paths error end
