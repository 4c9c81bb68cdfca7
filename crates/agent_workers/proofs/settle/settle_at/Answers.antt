use Rattle.std.proofs.Common.{arith}
use Rattle.agent_workers.specs.Settled.{HasSettled}
use Rattle.agent_workers.proofs.ListLaws.{cut_low, cut_high, cut_rest}
use Rattle.agent_workers.proofs.settle.settle_at.Goals as goal

pub returns-then-to-from-clause-did : goal.returns-then-to-from-clause-did
returns-then-to-from-clause-did g c = λ d.
    let s = c.split_at_mut-low.ensures in
    cut_low (HasSettled (λ b. (goal.Machine-dyn g (b.vtable, b.value)).meaning b.value)) c.args.cells.now c.split_at_mut-low.result.0.now c.split_at_mut-low.result.1.now c.args.from c.args.to
    c.index-high-0.result c.index-low-to.result c.settle_two.new.from c.settle_two.new.to d s.value s.front_len s.back_len c.if-to-from.true c.requires.inside.1 c.settle_two.ensures.did

pub returns-else-to-from-clause-did : goal.returns-else-to-from-clause-did
returns-else-to-from-clause-did g c = λ d.
    let s = c.split_at_mut-low-else-to-from.ensures in
    let ne = c.requires.inside.2 in
    let le = c.if-to-from.false in
    cut_high (HasSettled (λ b. (goal.Machine-dyn g (b.vtable, b.value)).meaning b.value)) c.args.cells.now c.split_at_mut-low-else-to-from.result.0.now c.split_at_mut-low-else-to-from.result.1.now c.args.to c.args.from
    c.index-high-0-else-to-from.result c.index-low-from.result c.settle_two-else-to-from.new.to c.settle_two-else-to-from.new.from d s.value s.front_len s.back_len (omega (arith, ne, le)) c.requires.inside.0 c.settle_two-else-to-from.ensures.did

pub returns-else-to-from-clause-rest : goal.returns-else-to-from-clause-rest
returns-else-to-from-clause-rest g c = λ k d ne other.
    let s = c.split_at_mut-low-else-to-from.ensures in
    cut_rest c.args.cells.now c.split_at_mut-low-else-to-from.result.0.now c.split_at_mut-low-else-to-from.result.1.now c.args.to c.args.from k c.settle_two-else-to-from.new.to c.settle_two-else-to-from.new.from d s.value s.front_len ne other
