use Rattle.agent_workers.proofs.CellLaws.{has_settled}
use Rattle.agent_workers.proofs.settle.settle_two.Goals as goal

pub returns : goal.returns
returns g c =
    let e = c.settle_to-messages.ensures in
    record { did = has_settled (λ b. (goal.Machine-dyn g (b.vtable, b.value)).meaning b.value) c.args.from.now c.args.to.now c.settle_to-messages.new.self c.settle_to-messages.new.other c.settle_to-messages.result c.requires.can e.cell e.other_cell e.quiet e.other_quiet e.tails e.heads e.settled e.own_heads e.other_tails e.begun e.fault e.visits }
