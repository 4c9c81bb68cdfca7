use Rattle.std.proofs.Common.{◌∙◌}
use Rattle.agent_links.specs.Links.{rows_in}
use Rattle.agent_links.proofs.SeatLaws.{known_few, known_beside}
use Rattle.node_seats.proofs.SeatedLaws.{known_plan, over_ends, seated_over}
use Rattle.node_seats.proofs.seats.seats_over.Goals as goal

pub link_over-requires-clause-few : goal.link_over-requires-clause-few
link_over-requires-clause-few g c = known_few c.args.problem.now c.as_slice.result.now c.problem_is_whole.ensures (c.as_slice.ensures.value ∙ c.in_ok-known.ensures)

pub link_over-requires-clause-beside : goal.link_over-requires-clause-beside
link_over-requires-clause-beside g c = known_beside c.args.problem.now c.as_slice.result.now (c.as_slice.ensures.value ∙ c.in_ok-known.ensures)

pub link_over-requires-clause-plan : goal.link_over-requires-clause-plan
link_over-requires-clause-plan g c = known_plan c.args.problem.now c.args.plan.now c.as_slice.result.now (c.as_slice.ensures.value ∙ c.in_ok-known.ensures) c.requires.plan

pub seat_all-requires-clause-ends : goal.seat_all-requires-clause-ends
seat_all-requires-clause-ends g c =
    over_ends c.args.problem.now c.link_over.new.plan c.as_slice.result.now (c.as_slice.ensures.value ∙ c.in_ok-known.ensures) (rows_in c.in_ok-links.links.tails.items) (rows_in c.in_ok-links.links.heads.items) c.in_ok-links.ensures.links

pub returns-clause-seats : goal.returns-clause-seats
returns-clause-seats g c =
    seated_over c.args.problem.now c.link_over.new.plan c.as_slice.result.now (c.as_slice.ensures.value ∙ c.in_ok-known.ensures) (rows_in c.in_ok-links.links.tails.items) (rows_in c.in_ok-links.links.heads.items) c.in_ok-links.ensures.links
    c.args.start.now c.seat_all.result c.seat_all.ensures
