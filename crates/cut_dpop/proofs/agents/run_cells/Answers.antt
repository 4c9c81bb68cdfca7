use Rattle.std.proofs.Common.{ℕ, ◌*◌, ◌-◌, List, length, ap, subst, ◌∙◌}
use Rattle.dcop_base.specs.Problem.{Dcop}
use Rattle.protocol_steps.specs.Outcomes.{HaveRun}
use Rattle.delivery_core.specs.Agents.{agents_of}
use Rattle.worker_laws.specs.CellRuns.{IsCellOutcome}
use Rattle.agent_workers.specs.Joined.{states_of}
use Rattle.agent_links.proofs.CellLaws.{seats_ready}
use Rattle.cut_dpop.specs.Start.{turn_deliveries}
use Rattle.cut_dpop.proofs.RunLaws.{have_run_of}
use Rattle.cut_dpop.proofs.AgreedLaws.{if-ok}
use Rattle.cut_dpop.proofs.agents.run_cells.Goals as goal

pub run-requires-clause-joined : goal.run-requires-clause-joined
run-requires-clause-joined g c κs within =
    (seats_ready _ c.args.problem.now c.args.start.now c.in_ok-seats.seats.items c.in_ok-cells.cells.items c.problem_is_whole.ensures c.in_ok-seats.ensures c.in_ok-cells.ensures.size (λ k s x lt. c.in_ok-cells.ensures.each k s x lt)).joined

pub run-requires-clause-sound : goal.run-requires-clause-sound
run-requires-clause-sound g c κs within =
    (seats_ready _ c.args.problem.now c.args.start.now c.in_ok-seats.seats.items c.in_ok-cells.cells.items c.problem_is_whole.ensures c.in_ok-seats.ensures c.in_ok-cells.ensures.size (λ k s x lt. c.in_ok-cells.ensures.each k s x lt)).sound

pub run-requires-clause-fresh : goal.run-requires-clause-fresh
run-requires-clause-fresh g c κs within =
    (seats_ready _ c.args.problem.now c.args.start.now c.in_ok-seats.seats.items c.in_ok-cells.cells.items c.problem_is_whole.ensures c.in_ok-seats.ensures c.in_ok-cells.ensures.size (λ k s x lt. c.in_ok-cells.ensures.each k s x lt)).fresh

pub returns : goal.returns
returns g c =
    if-ok c.outcome_of.result (λ o. IsCellOutcome (states_of _ c.as_slice-2.result.now) o) (HaveRun (turn_deliveries c.args.problem.now) (agents_of c.args.problem.now c.args.start.now)) (λ o cell.
    subst (λ (xs : List ℕ). HaveRun (2 * (length xs - 1)) (agents_of c.args.problem.now c.args.start.now) o) (c.as_slice.ensures ∙ ap (λ (q : Dcop). q.sizes) c.problem.view_is)
    (have_run_of _ (2 * (length c.as_slice.result.now - 1)) _ c.in_ok-cells.cells.items c.run.new.cells.items c.as_slice-2.result.now c.in_ok-end.end o c.cells_tell_outcomes.ensures
    (seats_ready _ c.args.problem.now c.args.start.now c.in_ok-seats.seats.items c.in_ok-cells.cells.items c.problem_is_whole.ensures c.in_ok-seats.ensures c.in_ok-cells.ensures.size (λ k s x lt. c.in_ok-cells.ensures.each k s x lt)).views
    c.in_ok-end.ensures.run c.as_slice-2.ensures.value cell)) c.outcome_of.ensures
