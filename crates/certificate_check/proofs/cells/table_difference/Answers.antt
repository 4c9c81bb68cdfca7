use Rattle.std.proofs.Common.{◌≡◌, ◌<◌, ℕ, List, length, sym, ap, subst, ◌∙◌, arith}
use Rattle.dcop_base.specs.Table.{has}
use Rattle.certificate_check.specs.Odometer.{IsNextPlace}
use Rattle.certificate_check.specs.Differences.{cell_difference}
use Rattle.certificate_check.proofs.FirstLaws.{found_given, none_given, none_all}
use Rattle.certificate_check.proofs.PartLaws.{targets}
use Rattle.certificate_check.proofs.ValueLaws.{at_next}
use Rattle.certificate_check.proofs.cells.table_difference.Goals as goal

pub returns-then-is_some : goal.returns-then-is_some
returns-then-is_some c =
    let lt : c.loop-k.k < length c.args.util.now.cells = rw (← c.as_slice-k-end.ensures) c.loop-k-test.true in
    found_given (cell_difference c.args.sizes.now (targets c.args.own.now) (targets c.args.children.now) c.args.util.now) c.loop-k.k (length c.args.util.now.cells) c.cell_difference-differs.result
    c.loop-k.invariant.none lt c.cell_difference-differs.ensures.first (sym c.is_some.ensures ∙ c.if-is_some.true)

pub loop-k-preserved : goal.loop-k-preserved
loop-k-preserved c =
    let lt : c.loop-k.k < length c.args.util.now.cells = rw (← c.as_slice-k-end.ensures) c.loop-k-test.true in record {
      none = none_given (cell_difference c.args.sizes.now (targets c.args.own.now) (targets c.args.children.now) c.args.util.now) c.loop-k.k c.cell_difference-differs.result
          c.loop-k.invariant.none c.cell_difference-differs.ensures.first (sym c.is_some.ensures ∙ c.if-is_some.false);
      at = at_next c.args.sizes.now c.args.util.now c.loop-k.k c.cell_difference-differs.new.values c.advance.new.values c.advance.result c.cell_difference-differs.ensures.at lt c.requires.fit.util_fits.many
          c.advance.ensures.within
          (subst (λ (vs : List ℕ). IsNextPlace c.args.sizes.now vs c.cell_difference-differs.new.values c.advance.new.values c.advance.result) c.as_slice.ensures c.advance.ensures.next)
          (λ v out. c.advance.ensures.others v (ap (λ (vs : List ℕ). has vs v) c.as_slice.ensures ∙ out));
    }

pub returns : goal.returns
returns c =
    let same : c.loop-k.k ≡ length c.args.util.now.cells = let e = ap length c.as_slice-k-end.ensures in omega arith in
    none_all (cell_difference c.args.sizes.now (targets c.args.own.now) (targets c.args.children.now) c.args.util.now) c.loop-k.k (length c.args.util.now.cells) c.loop-k.invariant.none same
