use Rattle.std.proofs.Common.{sym, ◌∙◌}
use Rattle.certificate_check.proofs.ToldLaws.{told_here, told_later, count_later}
use Rattle.certificate_check.proofs.told.util_of.Goals as goal

pub returns-then-eq : goal.returns-then-eq
returns-then-eq c =
    sym (told_here c.args.utils.now c.loop-util.util-index c.args.var c.util-item.result c.loop-util-test.true c.util-item.is (sym c.eq.ensures ∙ c.if-eq.true))
    ∙ c.loop-util.invariant.same

pub loop-util-preserved : goal.loop-util-preserved
loop-util-preserved c =
    let other = sym c.eq.ensures ∙ c.if-eq.false in record {
      same = sym (told_later c.args.utils.now c.loop-util.util-index c.args.var c.util-item.result c.loop-util-test.true c.util-item.is other) ∙ c.loop-util.invariant.same;
      one = sym (count_later c.args.utils.now c.loop-util.util-index c.args.var c.util-item.result c.loop-util-test.true c.util-item.is other) ∙ c.loop-util.invariant.one;
    }
