use Rattle.std.proofs.Common.{get_or}
use Rattle.dcop_base.specs.Values.{cell_with}
use Rattle.dcop_base.specs.Whole.{IsTableOf}
use Rattle.dcop_base.proofs.ProblemLaws.{entries-of, values-fit}
use Rattle.certificate_check.proofs.PartLaws.{target_all, capped_more}
use Rattle.certificate_check.proofs.sums.own_sum.Goals as goal

pub eval-requires-clause-entries : goal.eval-requires-clause-entries
eval-requires-clause-entries c =
    entries-of c.args.sizes.now c.args.values.now c.table-item.result.now
    (target_all (IsTableOf c.args.sizes.now) c.args.tables.now c.loop-table.table-index c.table-item.result c.requires.tables c.loop-table-test.true c.table-item.is) c.requires.within

pub eval-requires-clause-sizes : goal.eval-requires-clause-sizes
eval-requires-clause-sizes c =
    values-fit c.args.sizes.now c.args.values.now c.table-item.result.now
    (target_all (IsTableOf c.args.sizes.now) c.args.tables.now c.loop-table.table-index c.table-item.result c.requires.tables c.loop-table-test.true c.table-item.is) c.requires.within

pub loop-table-preserved : goal.loop-table-preserved
loop-table-preserved c =
    capped_more (λ t. cell_with t (λ v. get_or c.args.values.now v 0)) c.args.tables.now c.loop-table.table-index c.table-item.result c.loop-table.sum c.eval.result c.saturating_add-sum.result 18446744073709551615
    c.loop-table-test.true c.table-item.is c.loop-table.invariant c.eval.ensures.cell c.saturating_add-sum.ensures
