use Rattle.agent_cells.proofs.SettleLaws.{ends_join, head_settles, ends_settled, no_ends}
use Rattle.agent_cells.proofs.settling.settle_between.Goals as goal

pub settle_tail_to-requires-clause-joined : goal.settle_tail_to-requires-clause-joined
settle_tail_to-requires-clause-joined c = ends_join _ c.args.heads.now _ c.args.from c.in-Some.place c.index-heads-place.result c.requires.joined c.in-Some.ensures

pub returns-in-Some-clause-heads : goal.returns-in-Some-clause-heads
returns-in-Some-clause-heads c = head_settles _ _ _ _ _ c.in-Some.ensures c.settle_tail_to.ensures.head c.settle_tail_to.ensures.taken

pub returns-in-Some-clause-settled : goal.returns-in-Some-clause-settled
returns-in-Some-clause-settled c = ends_settled _ _ _ _ _ _ _ _ c.requires.sources c.in-Some.ensures c.settle_tail_to.ensures.settled

pub returns-in-None-clause-settled : goal.returns-in-None-clause-settled
returns-in-None-clause-settled c = no_ends _ _ _ _ c.in-None.ensures
