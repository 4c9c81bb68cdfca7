use Rattle.std.proofs.Common.{take, length, ap, arith}
use Rattle.cost_table.proofs.ProblemCutLaws.{length-ones_at}
use Rattle.report_reader.proofs.turns.slice_sizes.Goals as goal

pub index_mut-requires : goal.index_mut-requires
index_mut-requires c =
    let k = c.loop-var.var-index in
    let below = c.requires k c.var-item.result c.loop-var-test.true in
    omega (arith, below, c.var.view_is, c.var-item.is, ap length c.loop-var.invariant, length-ones_at (take k c.args.cut.now) c.args.sizes.now, c.loop-var.slice.ok.0)
