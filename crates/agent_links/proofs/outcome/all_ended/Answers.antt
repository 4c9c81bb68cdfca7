use Rattle.agent_links.proofs.OutcomeLaws.{one_has_not, all_have}
use Rattle.agent_links.proofs.outcome.all_ended.Goals as goal

pub returns-then-not-ended : goal.returns-then-not-ended
returns-then-not-ended g c =
    one_has_not (λ b. (goal.Machine-dyn g (b.vtable, b.value)).meaning b.value) c.args.cells.now c.loop-cell.cell-index c.cell-item.result c.ended.result c.loop-cell-test.true c.cell-item.is c.ended.ensures c.if-not-ended.true

pub returns : goal.returns
returns g c = all_have (λ b. (goal.Machine-dyn g (b.vtable, b.value)).meaning b.value) c.args.cells.now c.loop-cell.cell-index c.loop-cell-test.false c.loop-cell.invariant
