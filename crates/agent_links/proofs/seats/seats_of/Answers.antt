use Rattle.std.proofs.Common.{subst, ◌∙◌}
use Rattle.agent_links.specs.Links.{rows_in, one_node, AreLinks}
use Rattle.agent_links.proofs.SeatLaws.{met_few, met_beside, met_lists}
use Rattle.agent_links.proofs.EndLaws.{links_end, all_linked}
use Rattle.agent_links.proofs.seats.seats_of.Goals as goal

pub link_all-requires-clause-few : goal.link_all-requires-clause-few
link_all-requires-clause-few c = met_few c.args.problem.now c.as_slice.result.now c.problem_is_whole.ensures (c.as_slice.ensures.value ∙ c.in_ok-known.ensures)

pub link_all-requires-clause-beside : goal.link_all-requires-clause-beside
link_all-requires-clause-beside c = met_beside c.args.problem.now c.as_slice.result.now (c.as_slice.ensures.value ∙ c.in_ok-known.ensures)

pub seat_known-requires-clause-ends : goal.seat_known-requires-clause-ends
seat_known-requires-clause-ends c =
    links_end one_node _ _ _ (subst (λ ls. AreLinks ls (rows_in c.in_ok-links.links.tails.items) (rows_in c.in_ok-links.links.heads.items)) (met_lists c.args.problem.now c.as_slice.result.now (c.as_slice.ensures.value ∙ c.in_ok-known.ensures)) c.in_ok-links.ensures)

pub returns : goal.returns
returns c =
    all_linked c.args.problem.now c.args.start.now _ _ c.seat_known.result (subst (λ ls. AreLinks ls (rows_in c.in_ok-links.links.tails.items) (rows_in c.in_ok-links.links.heads.items)) (met_lists c.args.problem.now c.as_slice.result.now (c.as_slice.ensures.value ∙ c.in_ok-known.ensures)) c.in_ok-links.ensures) c.seat_known.ensures
