-- The law: where all ADOPT agents of a run have ended, their values cost at most the error more than the optimum.
use Rattle.std.proofs.Common.{◌≡◌, ℕ, ◌+◌, ◌≤◌, ◌<◌, true, ◌==◌, List, length, get_or, ap, subst, ◌∙◌, arith}
use Rattle.std.proofs.lemmas.List.{length-map}
use Rattle.dcop_base.specs.Problem.{Dcop, IsAssignment, cost}
use Rattle.dcop_base.specs.Whole.{IsProblem}
use Rattle.pseudotree.specs.declared.agent.Place.{Place}
use Rattle.pseudotree.specs.Tree.{IsRoot}
use Rattle.pseudotree.specs.Pseudotree.{IsPseudotree, IsLinked}
use Rattle.adopt_context.specs.Context.{value_in}
use Rattle.adopt_context.specs.Bounds.{cap}
use Rattle.adopt_context.specs.Allot.{lower_to}
use Rattle.protocol_steps.specs.Adopt.{AdoptView, is_root}
use Rattle.protocol_steps.specs.AdoptBounds.{lower_bound, upper_bound}
use Rattle.protocol_steps.specs.Effect.{has_ended}
use Rattle.protocol_steps.specs.Network.{Network, start_state}
use Rattle.protocol_steps.specs.View.{value_of}
use Rattle.protocol_steps.specs.TreeAgents.{adopt_agents}
use Rattle.dcop_optimum.specs.Optimum.{IsOptimum}
use Rattle.dcop_optimum.proofs.DecompositionLaws.{root_cost, root_bounds_enclose_optima}
use Rattle.dcop_optimum.proofs.JoinLaws.{within_from}
use Rattle.run_laws.proofs.BoundLaws.{lowered_below}
use Rattle.run_laws.proofs.EncloseLaws.{encloses_from}
use Rattle.run_laws.proofs.PlacedLaws.{Mid, agent_bounded, value_small}
use Rattle.run_laws.proofs.PairRuns.{IsRun}
use Rattle.run_laws.proofs.PairSteps.{run_goes}
use Rattle.run_laws.proofs.AdoptPendingLaws.{run_starts}
use Rattle.run_laws.specs.AdoptEnd.{values_of, IsRootThreshold, HoldsAtEnd, AdoptEnds}
use Rattle.run_laws.proofs.CeilingRuns.{AreUnder, run_under}
use Rattle.run_laws.proofs.EndedLaws.{value_at, knows_ancestors}
use Rattle.run_laws.proofs.SharesLaws.{below_threshold}

module _ (p : Dcop) (paths : List (List ℕ)) (problem : IsProblem p) (pseudo : IsPseudotree p paths) (linked : IsLinked p paths) (error : ℕ) where
  module _ (net : Network) (is : IsRun p paths problem pseudo linked error net) (low : AreUnder p paths problem pseudo error net) (over : has_ended net ≡ true) where
    abbrev values : List ℕ
    values = values_of net

    values_below : (k : ℕ) → k < length p.sizes → get_or values k 0 < get_or p.sizes k 0
    values_below k lt =
        let there = is.good.agents k lt in
        let at = value_at p paths problem pseudo linked error net is over k there.view there.at in
        let small = value_small p paths problem pseudo error k lt there.view there.settled.mid in
        omega (arith, at, small)

    are_assigned : IsAssignment p values
    are_assigned = within_from p.sizes values (length-map net.views value_of ∙ is.good.count) values_below

    in_problem : (root : ℕ) → IsRoot paths root → root < length p.sizes
    in_problem root at = let lt = at.0 in let count = pseudo.sized in omega (arith, lt, count)

    abbrev top : (root : ℕ) → IsRoot paths root → AdoptView
    top root at = (is.good.agents root (in_problem root at)).view

    root_threshold : (root : ℕ) (at : IsRoot paths root) → IsRootThreshold p error values (top root at)
    root_threshold root at =
        let lt = in_problem root at in
        let there = is.good.agents root lt in
        let v : AdoptView = there.view in
        let mid : Mid p paths problem pseudo error root lt v = there.settled.mid in
        let costs = below_threshold p paths problem pseudo linked error net is low over root lt in
        let whole = root_cost p paths problem pseudo root at values in
        let first : is_root v ≡ true = ap (λ (q : Place). length q.path == 0) mid.place_is ∙ ap (λ (xs : List ℕ). length xs == 0) at.1 in
        let held : v.threshold ≡ lower_to (cap (lower_bound v + v.error)) (upper_bound v) = there.settled.closed.held.at_root first in
        let cut : lower_to (cap (lower_bound v + v.error)) (upper_bound v) ≤ cap (lower_bound v + v.error) = lowered_below (cap (lower_bound v + v.error)) (upper_bound v) in
        let own : v.error ≡ error = mid.error_is in
        let most : v.threshold ≤ cap (lower_bound v + v.error) = omega (arith, held, cut) in
        (omega (arith, costs, whole), subst (λ (n : ℕ). v.threshold ≤ cap (lower_bound v + n)) own most)

    near_best : (root : ℕ) → IsRoot paths root → (m : ℕ) → IsOptimum p m → cost p values ≤ m + error
    near_best root at m best =
        let lt = in_problem root at in
        let there = is.good.agents root lt in
        let v : AdoptView = there.view in
        let both = root_threshold root at in
        let bounds = encloses_from p paths root (value_in v.known) (lower_bound v) (upper_bound v) (agent_bounded p paths problem pseudo error root lt v there.settled.mid) in
        let least = (root_bounds_enclose_optima p paths root (value_in v.known) (lower_bound v) (upper_bound v) problem pseudo at bounds m best).0 in
        let one = both.0 in
        let two = both.1 in
        omega (arith, one, two, least)

    pub holds_at_end : HoldsAtEnd p paths error net
    holds_at_end = record {
      assignment = are_assigned;
      known = λ i lt.
          let there = is.good.agents i lt in
          (there.view, there.at, knows_ancestors p paths problem pseudo linked error net is over i there.view there.at);
      threshold = λ root at. (top root at, (is.good.agents root (in_problem root at)).at, root_threshold root at);
      near = near_best pseudo.tree.some_root.0 pseudo.tree.some_root.1;
    }

pub adopt_ends : AdoptEnds
adopt_ends p paths error problem pseudo linked es end r over =
    holds_at_end p paths problem pseudo linked error end
    (run_goes p paths problem pseudo linked error (start_state (adopt_agents p paths error)) end es (run_starts p paths problem pseudo linked error) r)
    (run_under p paths problem pseudo error end es r) over
