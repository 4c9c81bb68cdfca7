use Rattle.delivery_core.specs.declared.start.Start.TheVariants.{Token}
use Rattle.agent_links.proofs.CellLaws.{seats_ready}
use Rattle.agent_workers.proofs.RunLaws.{begun_all, joined_all}
use Rattle.test_threads.proofs.workers.rounds.one_round.Goals as goal

pub begin-requires-clause-sound : goal.begin-requires-clause-sound
begin-requires-clause-sound g c =
    (seats_ready _ c.args.problem.now Token c.in_ok-seats.seats.items c.in_ok-cells.cells.items c.problem_is_whole.ensures c.in_ok-seats.ensures c.in_ok-cells.ensures.size (λ k s x lt. c.in_ok-cells.ensures.each k s x lt)).sound

pub begin-requires-clause-fresh : goal.begin-requires-clause-fresh
begin-requires-clause-fresh g c =
    (seats_ready _ c.args.problem.now Token c.in_ok-seats.seats.items c.in_ok-cells.cells.items c.problem_is_whole.ensures c.in_ok-seats.ensures c.in_ok-cells.ensures.size (λ k s x lt. c.in_ok-cells.ensures.each k s x lt)).fresh

pub round-requires-clause-joined : goal.round-requires-clause-joined
round-requires-clause-joined g c κs within =
    joined_all _ c.in_ok-cells.cells.items c.begin.new.cells.items
    (seats_ready _ c.args.problem.now Token c.in_ok-seats.seats.items c.in_ok-cells.cells.items c.problem_is_whole.ensures c.in_ok-seats.ensures c.in_ok-cells.ensures.size (λ k s x lt. c.in_ok-cells.ensures.each k s x lt)).joined
    c.in_ok-begin.ensures.started

pub round-requires-clause-begun : goal.round-requires-clause-begun
round-requires-clause-begun g c κs within = begun_all _ c.in_ok-cells.cells.items c.begin.new.cells.items c.in_ok-begin.ensures.started
