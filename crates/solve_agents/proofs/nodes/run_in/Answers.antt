use Rattle.std.proofs.Common.{refl, arith}
use Rattle.node_seats.proofs.CellLaws.{cells_ready, cells_linked, links_between, links_fresh, plan_agents}
use Rattle.solve_agents.proofs.CrewLaws.{have_logged_of, read_ascends, read_few, read_some, read_told}
use Rattle.solve_agents.proofs.WiringLaws.{frame_honest, fails_on, ran_fails}
use Rattle.solve_agents.proofs.nodes.run_in.Goals as goal

pub run_nodes-requires-clause-joined : goal.run_nodes-requires-clause-joined
run_nodes-requires-clause-joined g c κs within = (cells_ready _ c.args.problem.now c.args.start.now c.args.plan.now c.seats_over.new.plan c.in_ok-seats.seats.items c.in_ok-cells.cells.items c.requires.plan c.seats_over.ensures.frame c.in_ok-seats.ensures.seats c.in_ok-cells.ensures.size (λ k s x lt. c.in_ok-cells.ensures.each k s x lt)).joined

pub run_nodes-requires-clause-linked : goal.run_nodes-requires-clause-linked
run_nodes-requires-clause-linked g c κs within = cells_linked _ c.args.problem.now c.args.start.now c.args.plan.now c.seats_over.new.plan c.in_ok-seats.seats.items c.in_ok-cells.cells.items c.requires.plan c.seats_over.ensures.frame c.in_ok-seats.ensures.seats c.in_ok-cells.ensures.size (λ k s x lt. c.in_ok-cells.ensures.each k s x lt)

pub run_nodes-requires-clause-sound : goal.run_nodes-requires-clause-sound
run_nodes-requires-clause-sound g c κs within = (cells_ready _ c.args.problem.now c.args.start.now c.args.plan.now c.seats_over.new.plan c.in_ok-seats.seats.items c.in_ok-cells.cells.items c.requires.plan c.seats_over.ensures.frame c.in_ok-seats.ensures.seats c.in_ok-cells.ensures.size (λ k s x lt. c.in_ok-cells.ensures.each k s x lt)).sound

pub run_nodes-requires-clause-fresh : goal.run_nodes-requires-clause-fresh
run_nodes-requires-clause-fresh g c κs within = (cells_ready _ c.args.problem.now c.args.start.now c.args.plan.now c.seats_over.new.plan c.in_ok-seats.seats.items c.in_ok-cells.cells.items c.requires.plan c.seats_over.ensures.frame c.in_ok-seats.ensures.seats c.in_ok-cells.ensures.size (λ k s x lt. c.in_ok-cells.ensures.each k s x lt)).fresh

pub logged_of-requires-clause-some : goal.logged_of-requires-clause-some
logged_of-requires-clause-some g c = read_some _ c.args.budget c.in_ok-cells.cells.items c.run_nodes.new.cells.items c.as_slice.result.now c.in_ok-end.end c.in_ok-end.ensures.run c.as_slice.ensures.value c.journals_merge.ensures (omega (arith, c.in_ok-cells.ensures.size, c.in_ok-seats.ensures.seats.seated.size, c.problem_is_whole.ensures.some))

pub logged_of-requires-clause-few : goal.logged_of-requires-clause-few
logged_of-requires-clause-few g c = read_few _ c.args.budget c.in_ok-cells.cells.items c.run_nodes.new.cells.items c.as_slice.result.now c.in_ok-end.end c.in_ok-end.ensures.run c.as_slice.ensures.value c.journals_merge.ensures (omega (arith, c.in_ok-cells.ensures.size, c.in_ok-seats.ensures.seats.seated.size, c.problem_is_whole.ensures.few))

pub logged_of-requires-clause-told : goal.logged_of-requires-clause-told
logged_of-requires-clause-told g c = read_told _ c.args.budget c.in_ok-cells.cells.items c.run_nodes.new.cells.items c.as_slice.result.now c.in_ok-end.end c.in_ok-end.ensures.run c.as_slice.ensures.value

pub logged_of-requires-clause-ascend : goal.logged_of-requires-clause-ascend
logged_of-requires-clause-ascend g c = read_ascends _ c.args.budget c.in_ok-cells.cells.items c.run_nodes.new.cells.items c.as_slice.result.now c.in_ok-end.end c.in_ok-end.ensures.run c.as_slice.ensures.value

pub returns-clause-logged : goal.returns-clause-logged
returns-clause-logged g c =
    have_logged_of _ c.args.budget _ c.in_ok-cells.cells.items c.run_nodes.new.cells.items c.as_slice.result.now c.in_ok-end.end c.args.certified c.cells_tell_outcomes.ensures c.merged_stamps_are_right.ensures
    (cells_ready _ c.args.problem.now c.args.start.now c.args.plan.now c.seats_over.new.plan c.in_ok-seats.seats.items c.in_ok-cells.cells.items c.requires.plan c.seats_over.ensures.frame c.in_ok-seats.ensures.seats c.in_ok-cells.ensures.size (λ k s x lt. c.in_ok-cells.ensures.each k s x lt)).views
    c.in_ok-end.ensures.run c.as_slice.ensures.value c.in_ok-logged_of.field-0 c.in_ok-logged_of.ensures.outcome c.in_ok-logged_of.ensures.asked c.in_ok-logged_of.ensures.merged

pub returns-clause-honest : goal.returns-clause-honest
returns-clause-honest g c = λ h. (c.in_ok-end.ensures.honest (frame_honest _ _ c.args.plan.now c.seats_over.new.plan c.seats_over.ensures.frame h)).0

pub returns-in_err-end-clause-links : goal.returns-in_err-end-clause-links
returns-in_err-end-clause-links g c =
    fails_on _ _ _ _ _ _ _ _ _ _ c.from_residual-in_err-end.result _ c.from_residual-in_err-end.ensures.1 refl refl (λ many h. h) (λ start most is. is)
    (rw c.in_err-end.was at (ran_fails _ c.args.problem.now c.args.start.now c.requires.start _ c.args.budget c.args.plan.now c.seats_over.new.plan c.seats_over.ensures.frame.nodes (plan_agents c.args.problem.now c.args.start.now c.args.plan.now c.seats_over.new.plan c.in_ok-seats.seats.items c.requires.plan c.seats_over.ensures.frame)
    (links_between c.args.problem.now c.args.start.now c.args.plan.now c.seats_over.new.plan c.in_ok-seats.seats.items c.requires.plan c.seats_over.ensures.frame) (links_fresh c.args.problem.now c.args.start.now c.args.plan.now c.seats_over.new.plan c.in_ok-seats.seats.items c.requires.plan c.seats_over.ensures.frame c.in_ok-seats.ensures.seats)
    c.seats_over.ensures.frame.plan.ordered c.in_ok-seats.ensures.seats.linked.keeps
    _ _ (cells_ready _ c.args.problem.now c.args.start.now c.args.plan.now c.seats_over.new.plan c.in_ok-seats.seats.items c.in_ok-cells.cells.items c.requires.plan c.seats_over.ensures.frame c.in_ok-seats.ensures.seats c.in_ok-cells.ensures.size (λ k s x lt. c.in_ok-cells.ensures.each k s x lt)).views _ _ c.requires.many _ _ _ c.run_nodes.result c.run_nodes.ensures.cause
    (λ h. (c.run_nodes.ensures.honest (frame_honest _ _ c.args.plan.now c.seats_over.new.plan c.seats_over.ensures.frame h)).1) c.run_nodes.ensures.left))
