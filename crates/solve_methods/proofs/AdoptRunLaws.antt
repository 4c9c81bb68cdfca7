-- What ADOPT agents have reached that have run under a budget.
use Rattle.std.proofs.Common.{◌≡◌, ℕ, ◌+◌, ◌≤◌, Bool, List, map, IfSome, is_some, sym, ap, subst, ◌∙◌, arith}
use Rattle.std.specs.List.{flat_map}
use Rattle.std.specs.Option.{option_map}
use Rattle.std.proofs.lemmas.Option.{same_Some}
use Rattle.dcop_base.specs.Problem.{Dcop, IsAssignment, cost}
use Rattle.dcop_base.specs.Whole.{IsProblem}
use Rattle.pseudotree.specs.DepthFirst.{dfs}
use Rattle.pseudotree.specs.Pseudotree.{IsPseudotree, IsLinked}
use Rattle.protocol_steps.specs.declared.event.Event.{Event}
use Rattle.protocol_steps.specs.declared.outcome.Outcome.{Outcome}
use Rattle.protocol_steps.specs.declared.standing.Standing.{Standing}
use Rattle.protocol_steps.specs.Adopt.{AdoptView}
use Rattle.protocol_steps.specs.AdoptBounds.{lower_bound, upper_bound}
use Rattle.protocol_steps.specs.View.{AdoptKind, value_of, standing_of}
use Rattle.protocol_steps.specs.Network.{start_state}
use Rattle.protocol_steps.specs.Rounds.{RoundsAreARun}
use Rattle.protocol_steps.specs.TreeAgents.{adopt_agents}
use Rattle.run_laws.specs.AdoptRun.{IsAdoptRun}
use Rattle.run_laws.specs.AdoptPendingLaw.{AdoptPending}
use Rattle.run_laws.specs.AdoptRunLaws.{HoldsOfAdopt, AdoptBoundsEnclose}
use Rattle.run_laws.specs.AdoptEnd.{AdoptEnds}
use Rattle.minimised_problem.specs.LogEnds.{least_known, least_shown, ending_of}
use Rattle.minimised_problem.proofs.LogEndLaws.{agents-assigned, least-above}
use Rattle.solve_methods.specs.Reached.{HaveReached}
use Rattle.solve_methods.specs.Kept.{IsLogOf}
use Rattle.protocol_steps.specs.Outcomes.{HaveRun}
use Rattle.solve_methods.specs.declared.adopt.Reached.{Reached}
use Rattle.minimised_problem.proofs.SearchEndLaws.{run-spent}
use Rattle.minimised_problem.proofs.RootLaws.{root-zero}

-- agents that have run on the depth-first tree
module _ (p : Dcop) (whole : IsProblem p) (is_tree : IsPseudotree p (dfs p)) (linked : IsLinked p (dfs p)) (rounds : RoundsAreARun) (bounds : AdoptBoundsEnclose) (pending : AdoptPending) (ends : AdoptEnds)
    (error budget : ℕ) (outcome : Outcome) (is : HaveRun budget (adopt_agents p (dfs p) error) outcome) where
  abbrev events : List Event
  events = flat_map (λ es. es) is.rounds

  ran : IsAdoptRun p (dfs p) error events is.end
  ran = rounds budget (start_state (adopt_agents p (dfs p) error)) is.end is.rounds is.are_rounds

  holds : HoldsOfAdopt p (dfs p) error is.end
  holds = bounds p (dfs p) error whole is_tree events is.end ran

  pub values-assigned : IsAssignment p outcome.values
  values-assigned = subst (IsAssignment p) (sym is.told.values) (agents-assigned p error is.end.views holds.sized holds.agents)

  -- what they have reached, by their values and by the root's standing
  pub reached : (r : Reached) → r.values ≡ outcome.values → r.ending ≡ ending_of is.end → r.deliveries ≡ outcome.deliveries → r.lower ≡ outcome.top.lower → r.upper ≡ least_known (cost p r.values) outcome.top.upper
      → (certified : Bool) → is_some r.log ≡ certified → IfSome r.log (IsLogOf (adopt_agents p (dfs p) error) is.rounds is.end) → HaveReached p error budget certified r
  reached r values ending deliveries lower upper certified asked logged =
      let one = holds.agents 0 (let some = whole.some in omega (arith, some)) in
      let v : AdoptView = one.0 in
      let root = root-zero p whole in
      let same : standing_of (AdoptKind v) ≡ outcome.top = same_Some (standing_of (AdoptKind v)) outcome.top (sym (ap (option_map standing_of) one.1) ∙ is.told.top) in
      let low : r.lower ≡ lower_bound v = lower ∙ sym (ap (λ (s : Standing). s.lower) same) in
      let high : r.upper ≡ least_shown p r.values v = upper ∙ sym (ap (λ (s : Standing). least_known (cost p r.values) s.upper) same) in
      let assignment : IsAssignment p r.values = subst (IsAssignment p) (sym values) values-assigned in
      let by_end : r.values ≡ map value_of is.end.views = values ∙ is.told.values in
      record {
        end = is.end;
        play = record { rounds = is.rounds; run = ran; in_rounds = is.are_rounds };
        top = v;
        is_top = record { root = 0; above_all = root; is = one.1 };
        ending = ending;
        spent = run-spent budget is.end (pending p (dfs p) error whole is_tree linked events is.end ran) is.how is.stopped;
        delivered = deliveries ∙ is.told.deliveries;
        values = by_end;
        lower = low;
        upper = high;
        assignment = assignment;
        asked = asked;
        logged = logged;
        enclosed = λ least optimal.
            let bounds = one.2.at_root root least optimal in
            let below = bounds.0 in
            let above = least-above least (cost p r.values) (upper_bound v) (optimal.lowest r.values assignment) bounds.1 in
            (omega (arith, below, low), omega (arith, above, high));
        near = λ over least optimal.
            subst (λ (vs : List ℕ). cost p vs ≤ least + error) (sym by_end) ((ends p (dfs p) error whole is_tree linked events is.end ran over).near least optimal);
      }
