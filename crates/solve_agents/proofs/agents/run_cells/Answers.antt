use Rattle.std.proofs.Common.{arith}
use Rattle.agent_links.proofs.CellLaws.{seats_ready}
use Rattle.solve_agents.proofs.CrewLaws.{have_logged_by, read_ascends, read_few, read_some, read_told}
use Rattle.solve_agents.proofs.agents.run_cells.Goals as goal

pub run-requires-clause-joined : goal.run-requires-clause-joined
run-requires-clause-joined g c κs within =
    (seats_ready _ c.args.problem.now c.args.start.now c.in_ok-seats.seats.items c.in_ok-cells.cells.items c.problem_is_whole.ensures c.in_ok-seats.ensures c.in_ok-cells.ensures.size (λ k s x lt. c.in_ok-cells.ensures.each k s x lt)).joined

pub run-requires-clause-sound : goal.run-requires-clause-sound
run-requires-clause-sound g c κs within =
    (seats_ready _ c.args.problem.now c.args.start.now c.in_ok-seats.seats.items c.in_ok-cells.cells.items c.problem_is_whole.ensures c.in_ok-seats.ensures c.in_ok-cells.ensures.size (λ k s x lt. c.in_ok-cells.ensures.each k s x lt)).sound

pub run-requires-clause-fresh : goal.run-requires-clause-fresh
run-requires-clause-fresh g c κs within =
    (seats_ready _ c.args.problem.now c.args.start.now c.in_ok-seats.seats.items c.in_ok-cells.cells.items c.problem_is_whole.ensures c.in_ok-seats.ensures c.in_ok-cells.ensures.size (λ k s x lt. c.in_ok-cells.ensures.each k s x lt)).fresh

pub logged_of-requires-clause-some : goal.logged_of-requires-clause-some
logged_of-requires-clause-some g c =
    read_some _ c.args.budget c.in_ok-cells.cells.items c.run.new.cells.items c.as_slice.result.now c.in_ok-end.end c.in_ok-end.ensures.run c.as_slice.ensures.value c.journals_merge.ensures
    (omega (arith, c.in_ok-cells.ensures.size, c.in_ok-seats.ensures.size, c.problem_is_whole.ensures.some))

pub logged_of-requires-clause-few : goal.logged_of-requires-clause-few
logged_of-requires-clause-few g c =
    read_few _ c.args.budget c.in_ok-cells.cells.items c.run.new.cells.items c.as_slice.result.now c.in_ok-end.end c.in_ok-end.ensures.run c.as_slice.ensures.value c.journals_merge.ensures
    (omega (arith, c.in_ok-cells.ensures.size, c.in_ok-seats.ensures.size, c.problem_is_whole.ensures.few))

pub logged_of-requires-clause-told : goal.logged_of-requires-clause-told
logged_of-requires-clause-told g c = read_told _ c.args.budget c.in_ok-cells.cells.items c.run.new.cells.items c.as_slice.result.now c.in_ok-end.end c.in_ok-end.ensures.run c.as_slice.ensures.value

pub logged_of-requires-clause-ascend : goal.logged_of-requires-clause-ascend
logged_of-requires-clause-ascend g c = read_ascends _ c.args.budget c.in_ok-cells.cells.items c.run.new.cells.items c.as_slice.result.now c.in_ok-end.end c.in_ok-end.ensures.run c.as_slice.ensures.value

pub returns : goal.returns
returns g c =
    have_logged_by _ c.args.budget _ c.in_ok-cells.cells.items c.run.new.cells.items c.as_slice.result.now c.in_ok-end.end c.args.certified c.cells_tell_outcomes.ensures c.merged_stamps_are_right.ensures
    (seats_ready _ c.args.problem.now c.args.start.now c.in_ok-seats.seats.items c.in_ok-cells.cells.items c.problem_is_whole.ensures c.in_ok-seats.ensures c.in_ok-cells.ensures.size (λ k s x lt. c.in_ok-cells.ensures.each k s x lt)).views
    c.in_ok-end.ensures.run c.as_slice.ensures.value c.logged_of.result c.logged_of.ensures.outcome c.logged_of.ensures.asked c.logged_of.ensures.merged
