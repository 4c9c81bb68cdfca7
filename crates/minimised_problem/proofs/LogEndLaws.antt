-- What holds of the values and of the root's bounds at the end of a run of ADOPT.
use Rattle.std.proofs.Common.{◌≡◌, ℕ, ◌+◌, ◌<◌, ◌≤◌, List, map, length, get_or, Option, Some, None, sym, ap, subst, ◌∙◌, arith}
use Rattle.std.specs.List.{slice_get}
use Rattle.std.specs.Option.{option_map}
use Rattle.std.proofs.lemmas.List.{length-map}
use Rattle.std.proofs.lemmas.List.FromFn.{length-map-range_with_len}
use Rattle.std.proofs.lemmas.Option.{slice_get-map, get_or_from_slice_get, same_Some}
use Rattle.dcop_base.specs.Problem.{Dcop, IsAssignment, cost}
use Rattle.pseudotree.specs.DepthFirst.{search_of, path_in, dfs}
use Rattle.pseudotree.specs.Tree.{IsRoot}
use Rattle.dcop_optimum.specs.Enclosing.{IsAtMost}
use Rattle.dcop_optimum.specs.Optimum.{IsOptimum}
use Rattle.dcop_optimum.proofs.JoinLaws.{within_from}
use Rattle.protocol_steps.specs.declared.standing.Standing.{Standing}
use Rattle.protocol_steps.specs.Adopt.{AdoptView}
use Rattle.protocol_steps.specs.AdoptBounds.{lower_bound, upper_bound}
use Rattle.protocol_steps.specs.Network.{Network}
use Rattle.protocol_steps.specs.View.{View, AdoptKind, value_of, standing_of}
use Rattle.run_laws.specs.AdoptAgents.{AreAgents}
use Rattle.run_laws.specs.AdoptRunLaws.{HoldsOfAdopt}
use Rattle.run_laws.specs.AdoptEnd.{values_of, HoldsAtEnd}
use Rattle.minimised_problem.specs.LogEnds.{IsRootAgent, least_known, least_shown}

-- the values of agents are an assignment
pub agents-assigned : (p : Dcop) (error : ℕ) (views : List View) → length views ≡ length p.sizes → AreAgents p (dfs p) error views → IsAssignment p (map value_of views)
agents-assigned p error views size agents =
    within_from p.sizes (map value_of views) (length-map views value_of ∙ size)
    (λ k lt.
    let one = agents k lt in
    let at : slice_get (map value_of views) k ≡ Some (one.0).value = slice_get-map value_of views k ∙ ap (option_map value_of) one.1 in
    let same : get_or (map value_of views) k 0 ≡ (one.0).value = get_or_from_slice_get (map value_of views) k (one.0).value 0 at in
    let below = one.2.value_below in
    omega (arith, same, below))

-- the lesser of a sum and a bound is at least what both are
pub least-above : (least sum : ℕ) (bound : Option ℕ) → least ≤ sum → IsAtMost least bound → least ≤ least_known sum bound
least-above least sum None below at_most = below
least-above least sum (Some bound) below at_most = omega (arith, below, at_most)

-- an agent in one place has one standing
same-standing : (views : List View) (i : ℕ) (v w : AdoptView) → slice_get views i ≡ Some (AdoptKind v) → slice_get views i ≡ Some (AdoptKind w) → standing_of (AdoptKind v) ≡ standing_of (AdoptKind w)
same-standing views i v w at also = ap standing_of (same_Some (AdoptKind v) (AdoptKind w) (sym at ∙ also))

root-below : (p : Dcop) (root : ℕ) → IsRoot (dfs p) root → root < length p.sizes
root-below p root is =
    let long : length (dfs p) ≡ length p.sizes = length-map-range_with_len (path_in (search_of p)) 0 (length p.sizes) in
    omega (arith, long, is.0)

-- the end of a run, its root's agent and values that are an assignment enclose the optimum
pub root-encloses : (p : Dcop) (error : ℕ) (end : Network) (top : AdoptView) → HoldsOfAdopt p (dfs p) error end → IsRootAgent p end top → (values : List ℕ) → IsAssignment p values
    → (least : ℕ) → IsOptimum p least → (lower_bound top ≤ least) × (least ≤ least_shown p values top)
root-encloses p error end top holds is values within least optimal =
    let one = holds.agents is.root (root-below p is.root is.above_all) in
    let same = same-standing end.views is.root one.0 top one.1 is.is in
    let bounds = one.2.at_root is.above_all least optimal in
    let low : lower_bound one.0 ≡ lower_bound top = ap (λ (s : Standing). s.lower) same in
    let high : IsAtMost least (upper_bound top) = subst (IsAtMost least) (ap (λ (s : Standing). s.upper) same) bounds.1 in
    (omega (arith, low, bounds.0), least-above least (cost p values) (upper_bound top) (optimal.lowest values within) high)

-- where all have ended, the values cost at most the error more than the root's lower bound
pub root-near : (p : Dcop) (error : ℕ) (end : Network) (top : AdoptView) → HoldsAtEnd p (dfs p) error end → IsRootAgent p end top → cost p (values_of end) ≤ lower_bound top + error
root-near p error end top holds is =
    let one = holds.threshold is.root is.above_all in
    let same = same-standing end.views is.root one.0 top one.1 is.is in
    let low : lower_bound one.0 ≡ lower_bound top = ap (λ (s : Standing). s.lower) same in
    omega (arith, low, one.2.0, one.2.1)
