use Rattle.std.proofs.Common.{◌≡◌, ℕ, ◌+◌, ◌*◌, length, get_or, refl, ap, arith}
use Rattle.shared_costs.proofs.RunLaws.{lowered-more, run-next}
use Rattle.shared_costs.proofs.runs.lower_by_cells.Goals as goal

pub loop-number-preserved : goal.loop-number-preserved
loop-number-preserved c =
    let size = length c.args.lows.now in
    let b = c.loop-block.block in
    let a = c.loop-number.number in
    let start = (b * size + a) * 1 in
    lowered-more 1 c.args.cells.now c.args.lows.now c.loop-number.lows b a c.min.result start ((b * size + (a + 1)) * 1) c.loop-number-test.true refl (run-next b size a 1) (omega (arith, c.min.ensures))
    (λ k from to. (let same : b * size + a ≡ k = omega (arith, from, to) in omega (arith, c.min.ensures, ap (λ (n : ℕ). get_or c.args.cells.now n 0) same))) c.loop-number.invariant
