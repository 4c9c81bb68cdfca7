use Rattle.cost_table.proofs.CutLaws.{cut-turn, cut-whole}
use Rattle.cost_table.proofs.cut.cut_table.Goals as goal

pub loop-k-preserved : goal.loop-k-preserved
loop-k-preserved c =
    cut-turn c.args.table.now c.loop-k.slice c.in_ok-slice-2.slice c.args.cut.now c.args.values.now c.loop-k.k c.index-cut-k.result c.index-values-k.result
    c.loop-k-test.true c.index-cut-k.is c.index-values-k.is c.in_ok-slice-2.ensures c.loop-k.invariant

pub returns-clause-slice : goal.returns-clause-slice
returns-clause-slice c = cut-whole c.args.table.now c.loop-k.slice c.args.cut.now c.args.values.now c.loop-k.k c.loop-k-test.false c.loop-k.invariant
