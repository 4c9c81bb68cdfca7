use Rattle.std.proofs.Common.{sym}
use Rattle.report_reader.specs.UtilLine.{has_util}
use Rattle.report_reader.proofs.UtilLineLaws.{range-passes}
use Rattle.report_reader.proofs.util_line.lacks_util.Goals as goal

pub loop-var-preserved : goal.loop-var-preserved
loop-var-preserved c = range-passes (λ var. has_util c.args.utils.now var) c.loop-var.var c.args.count _ c.loop-var-test.true (sym c.if-not-has_util.ensures) c.loop-var.invariant
