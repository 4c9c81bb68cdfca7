-- What the agents of a turn agree on.
use Rattle.std.proofs.Common.{ℕ, List, sym, subst, arith}
use Rattle.std.specs.Prelude.{Result, Ok, Err, IfOk}
use Rattle.std.specs.List.{flat_map}
use Rattle.dcop_base.specs.Problem.{Dcop}
use Rattle.dcop_base.specs.Whole.{IsProblem}
use Rattle.pseudotree.specs.Width.{IsNarrow}
use Rattle.dcop_optimum.specs.TreeOptimum.{IsFirstOptimumOf}
use Rattle.protocol_steps.specs.declared.event.Event.{Event}
use Rattle.protocol_steps.specs.declared.outcome.Outcome.{Outcome}
use Rattle.protocol_steps.specs.Network.{start_state}
use Rattle.protocol_steps.specs.Outcomes.{HaveRun}
use Rattle.protocol_steps.specs.Rounds.{RoundsAreARun}
use Rattle.protocol_steps.specs.TreeAgents.{dpop_agents}
use Rattle.delivery_core.specs.declared.start.Start.{Start}
use Rattle.delivery_core.specs.declared.start.Start.TheVariants.{Token, Dpop, Adopt}
use Rattle.delivery_core.specs.Agents.{IsStartFor, agents_of}
use Rattle.run_laws.specs.DpopLaws.{DpopRuns}
use Rattle.minimised_problem.proofs.RunLaws.{have_made}
use Rattle.minimised_problem.proofs.SearchEndLaws.{run-ended}
use Rattle.run_laws.specs.Slice.{slice_of}
use Rattle.run_laws.specs.Trees.{SlicesKeepTrees}
use Rattle.cut_dpop.specs.Start.{paths_in, IsDpopStart, turn_deliveries, HaveFirst}

-- a start of DPOP agents is one on which agents run
pub start-for : (p : Dcop) (start : Start) → IsDpopStart p start → IsStartFor p start
start-for p Token fits = absurd fits
start-for p (Dpop tree) fits = fits
start-for p (Adopt tree error) fits = absurd fits

-- and it is one of each slice
pub start-on_slice : (p : Dcop) (cut vs : List ℕ) (start : Start) → SlicesKeepTrees → IsDpopStart p start → IsDpopStart (slice_of p cut vs) start
start-on_slice p cut vs Token law fits = absurd fits
start-on_slice p cut vs (Dpop tree) law fits =
    let keeps = law p cut vs in
    record { pseudotree = (keeps.tree tree).0 fits.pseudotree; linked = (keeps.linked tree.paths).0 fits.linked }
start-on_slice p cut vs (Adopt tree error) law fits = absurd fits

-- DPOP agents that have run under the budget of their messages have the first optimum of the tree
pub have-first : (p : Dcop) (start : Start) → IsProblem p → IsDpopStart p start → IsNarrow p (paths_in start) → DpopRuns → RoundsAreARun → (outcome : Outcome)
    → HaveRun (turn_deliveries p) (agents_of p start) outcome → HaveFirst p (paths_in start) outcome
have-first p Token whole fits narrow law rounds outcome is = absurd fits
have-first p (Adopt tree error) whole fits narrow law rounds outcome is = absurd fits
have-first p (Dpop tree) whole fits narrow law rounds outcome is =
    let events : List Event = flat_map (λ es. es) is.rounds in
    let holds = law.runs p tree.paths whole fits.pseudotree.pseudotree fits.linked narrow events is.end
    (rounds (turn_deliveries p) (start_state (dpop_agents p tree.paths)) is.end is.rounds is.are_rounds) in
    let all = holds.whole (run-ended (turn_deliveries p) is.end holds.pending is.how is.stopped holds.early) in record {
      first = subst (IsFirstOptimumOf p tree.paths) (sym is.told.values) all.first;
      deliveries =
          let told = is.told.deliveries in
          let utils = all.all_utils in
          let values = all.all_values in
          let sum = holds.nothing_else in
          omega (arith, told, utils, values, sum);
      tables = have_made p tree.paths is.end outcome.tables holds all is.told.tables;
    }

-- what follows of a value that is there
pub if-ok : {A E : Type 0} (r : Result A E) (P Q : A → Type 0) → ((x : A) → P x → Q x) → IfOk r P → IfOk r Q
if-ok (Ok x) P Q f h = f x h
if-ok (Err e) P Q f h = tt
