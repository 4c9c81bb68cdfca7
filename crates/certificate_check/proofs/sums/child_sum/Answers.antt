use Rattle.std.proofs.Common.{get_or}
use Rattle.dcop_base.specs.Values.{cell_with}
use Rattle.certificate_text.specs.Fits.{FitsUtil}
use Rattle.minimised_problem.specs.Told.{sized}
use Rattle.certificate_check.proofs.PartLaws.{target_all, capped_more}
use Rattle.certificate_check.proofs.sums.child_sum.Goals as goal

pub util_cell-requires-clause-fits : goal.util_cell-requires-clause-fits
util_cell-requires-clause-fits c =
    target_all (FitsUtil c.args.sizes.now) c.args.utils.now c.loop-util.util-index c.util-item.result c.requires.utils c.loop-util-test.true c.util-item.is

pub loop-util-preserved : goal.loop-util-preserved
loop-util-preserved c =
    capped_more (λ u. cell_with (sized c.args.sizes.now u) (λ v. get_or c.args.values.now v 0)) c.args.utils.now c.loop-util.util-index c.util-item.result c.loop-util.sum c.util_cell.result c.saturating_add-sum.result 18446744073709551615
    c.loop-util-test.true c.util-item.is c.loop-util.invariant c.util_cell.ensures c.saturating_add-sum.ensures
