use Rattle.std.proofs.Common.{◌+◌, ◌*◌, ◌≤◌, length, refl, arith}
use Rattle.shared_costs.proofs.RunLaws.{lowered-more, run-next, run-room, run-below}
use Rattle.shared_costs.proofs.runs.lower.Goals as goal

pub loop-number-preserved : goal.loop-number-preserved
loop-number-preserved c =
    let size = length c.args.lows.now in
    let inner = c.args.inner in
    let b = c.loop-block.block in
    let a = c.loop-number.number in
    let start = (b * size + a) * inner in
    let room : start + inner ≤ length c.args.cells.now = run-room b c.args.blocks size a inner _ c.loop-block-test.true c.loop-number-test.true c.requires.full in
    lowered-more inner c.args.cells.now c.args.lows.now c.loop-number.lows b a c.least_from.result start ((b * size + (a + 1)) * inner) c.loop-number-test.true refl (run-next b size a inner) c.least_from.ensures.amount
    (λ k from to. run-below c.least_from.result start inner c.args.cells.now k c.least_from.ensures.cells room from (omega (arith, to, run-next b size a inner))) c.loop-number.invariant
