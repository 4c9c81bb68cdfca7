use Rattle.agent_cells.proofs.SettleLaws.{head_joins, head_settles, head_settled, no_head}
use Rattle.agent_cells.proofs.settling.settle_head_from.Goals as goal

pub settle-requires-clause-ends : goal.settle-requires-clause-ends
settle-requires-clause-ends c κs = head_joins c.args.heads.now c.args.from c.in-Some.place c.index-heads-place.result c.args.tail.now c.requires.joined c.in-Some.ensures

pub returns-in-Some-clause-heads : goal.returns-in-Some-clause-heads
returns-in-Some-clause-heads c = head_settles _ _ _ _ _ c.in-Some.ensures c.settle.ensures.head c.settle.ensures.taken

pub returns-in-Some-clause-settled : goal.returns-in-Some-clause-settled
returns-in-Some-clause-settled c = head_settled _ _ _ _ _ _ _ c.requires.ascend c.in-Some.ensures c.settle.ensures.settled c.settle.ensures.count

pub returns-in-None-clause-settled : goal.returns-in-None-clause-settled
returns-in-None-clause-settled c = no_head _ _ _ c.in-None.ensures
