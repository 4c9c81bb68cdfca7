use Rattle.agent_cells.proofs.SettleLaws.{tail_joins, tail_settles, tail_settled, no_tail}
use Rattle.agent_cells.proofs.settling.settle_tail_to.Goals as goal

pub settle-requires-clause-ends : goal.settle-requires-clause-ends
settle-requires-clause-ends c κs = tail_joins c.args.tails.now c.args.to c.in-Some.place c.index-tails-place.result c.args.head.now c.requires.joined c.in-Some.ensures

pub returns-in-Some-clause-tails : goal.returns-in-Some-clause-tails
returns-in-Some-clause-tails c = tail_settles _ _ _ _ _ c.in-Some.ensures c.settle.ensures.tail c.settle.ensures.sent

pub returns-in-Some-clause-settled : goal.returns-in-Some-clause-settled
returns-in-Some-clause-settled c = tail_settled _ _ _ _ _ _ _ c.requires.ascend c.in-Some.ensures c.settle.ensures.settled c.settle.ensures.count

pub returns-in-None-clause-settled : goal.returns-in-None-clause-settled
returns-in-None-clause-settled c = no_tail _ _ _ c.in-None.ensures
