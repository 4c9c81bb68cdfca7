-- What DPOP agents have agreed on that have run under the budget of their messages.
use Rattle.std.proofs.Common.{List, sym, subst, arith}
use Rattle.std.specs.List.{flat_map}
use Rattle.dcop_base.specs.Problem.{Dcop}
use Rattle.dcop_base.specs.Whole.{IsProblem}
use Rattle.pseudotree.specs.DepthFirst.{dfs}
use Rattle.pseudotree.specs.Pseudotree.{IsPseudotree, IsLinked}
use Rattle.pseudotree.specs.Width.{IsNarrow}
use Rattle.protocol_steps.specs.declared.event.Event.{Event}
use Rattle.protocol_steps.specs.declared.outcome.Outcome.{Outcome}
use Rattle.protocol_steps.specs.Network.{start_state}
use Rattle.protocol_steps.specs.Rounds.{RoundsAreARun}
use Rattle.protocol_steps.specs.TreeAgents.{dpop_agents}
use Rattle.run_laws.specs.DpopLaws.{DpopRuns}
use Rattle.minimised_problem.proofs.RunLaws.{have_made}
use Rattle.solve_methods.specs.Agreed.{HaveValues}
use Rattle.solve_methods.specs.Dpop.{IsFirstOfTree, dpop_deliveries}
use Rattle.protocol_steps.specs.Outcomes.{HaveRun}
use Rattle.minimised_problem.proofs.SearchEndLaws.{run-ended}

-- DPOP agents that have run under the budget of their messages have the first optimum of their tree
pub run-agreed : (p : Dcop) → IsProblem p → IsPseudotree p (dfs p) → IsLinked p (dfs p) → IsNarrow p (dfs p) → DpopRuns → RoundsAreARun → (outcome : Outcome) → HaveRun (dpop_deliveries p) (dpop_agents p (dfs p)) outcome
    → HaveValues p outcome
run-agreed p whole is_tree linked narrow law rounds outcome is =
    let events : List Event = flat_map (λ es. es) is.rounds in
    let holds = law.runs p (dfs p) whole is_tree linked narrow events is.end (rounds (dpop_deliveries p) (start_state (dpop_agents p (dfs p))) is.end is.rounds is.are_rounds) in
    let all = holds.whole (run-ended (dpop_deliveries p) is.end holds.pending is.how is.stopped holds.early) in record {
      first = subst (IsFirstOfTree p) (sym is.told.values) all.first;
      deliveries =
          let told = is.told.deliveries in
          let utils = all.all_utils in
          let values = all.all_values in
          let sum = holds.nothing_else in
          omega (arith, told, utils, values, sum);
      tables = have_made p (dfs p) is.end outcome.tables holds all is.told.tables;
    }
