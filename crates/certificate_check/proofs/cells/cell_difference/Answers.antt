use Rattle.std.proofs.Common.{◌≡◌, ◌<◌, ℕ, List, get_or, set, false, sym, subst, ◌∙◌}
use Rattle.dcop_base.specs.Table.{has}
use Rattle.certificate_text.specs.declared.certificate.Util.{Util}
use Rattle.certificate_check.specs.Odometer.{IsAtCell}
use Rattle.certificate_check.specs.Differences.{value_difference}
use Rattle.certificate_check.proofs.FirstLaws.{none_more}
use Rattle.certificate_check.proofs.PartLaws.{targets}
use Rattle.certificate_check.proofs.ValueLaws.{at_set}
use Rattle.certificate_check.proofs.DifferLaws.{Seen, first_at, same_at}
use Rattle.certificate_check.proofs.cells.cell_difference.Goals as goal

-- the value is below the size of the own variable, which the code reads by one index and writes by another
lower : (sizes : List ℕ) (value read var : ℕ) → read ≡ var → value < get_or sizes read 0 → value < get_or sizes var 0
lower sizes value read var e lt = subst (λ (i : ℕ). value < get_or sizes i 0) e lt

stays : (sizes : List ℕ) (u : Util) (k : ℕ) (values : List ℕ) (index d : ℕ) → index ≡ u.var → IsAtCell sizes u k values → has u.scope u.var ≡ false → d < get_or sizes u.var 0 → IsAtCell sizes u k (set values index d)
stays sizes u k values index d e at apart lt = subst (λ (i : ℕ). IsAtCell sizes u k (set values i d)) (sym e) (at_set sizes u k values d at apart lt)

pub sum_below-right-requires-clause-within : goal.sum_below-right-requires-clause-within
sum_below-right-requires-clause-within c =
    (stays c.args.sizes.now c.args.util.now c.args.k c.loop-value.values c.var-in-loop-value.inside.0 c.loop-value.value (c.var-in-loop-value.view_is ∙ c.loop-value.invariant.variable) c.loop-value.invariant.at c.requires.fit.apart
    (lower c.args.sizes.now c.loop-value.value c.var.inside.0 c.args.util.now.var c.var.view_is c.loop-value-test.true)).within

pub returns-then-right-left-clause-first : goal.returns-then-right-left-clause-first
returns-then-right-left-clause-first c =
    let seen : Seen c.args.sizes.now (targets c.args.own.now) (targets c.args.children.now) c.args.util.now c.args.k c.loop-value.values c.var-in-loop-value.inside.0 c.loop-value.value (get_or c.as_slice.result.now c.args.k 0) c.sum_below-right.result = record {
      fit = c.requires.fit;
      at = c.loop-value.invariant.at;
      inside = c.requires.within;
      index_is = c.var-in-loop-value.view_is ∙ c.loop-value.invariant.variable;
      left_is = c.loop-value.invariant.cell;
      right_is = c.sum_below-right.ensures;
    } in
    first_at c.args.sizes.now (targets c.args.own.now) (targets c.args.children.now) c.args.util.now c.args.k c.loop-value.values c.var-in-loop-value.inside.0 c.loop-value.value (get_or c.as_slice.result.now c.args.k 0) c.sum_below-right.result
    seen c.if-right-left.true (lower c.args.sizes.now c.loop-value.value c.var.inside.0 c.args.util.now.var c.var.view_is c.loop-value-test.true) c.loop-value.invariant.none c.loop-value.var c.loop-value.invariant.variable

pub returns-then-right-left-clause-at : goal.returns-then-right-left-clause-at
returns-then-right-left-clause-at c =
    stays c.args.sizes.now c.args.util.now c.args.k c.loop-value.values c.var-in-loop-value.inside.0 c.loop-value.value (c.var-in-loop-value.view_is ∙ c.loop-value.invariant.variable) c.loop-value.invariant.at c.requires.fit.apart
    (lower c.args.sizes.now c.loop-value.value c.var.inside.0 c.args.util.now.var c.var.view_is c.loop-value-test.true)

pub loop-value-preserved : goal.loop-value-preserved
loop-value-preserved c =
    let seen : Seen c.args.sizes.now (targets c.args.own.now) (targets c.args.children.now) c.args.util.now c.args.k c.loop-value.values c.var-in-loop-value.inside.0 c.loop-value.value (get_or c.as_slice.result.now c.args.k 0) c.sum_below-right.result = record {
      fit = c.requires.fit;
      at = c.loop-value.invariant.at;
      inside = c.requires.within;
      index_is = c.var-in-loop-value.view_is ∙ c.loop-value.invariant.variable;
      left_is = c.loop-value.invariant.cell;
      right_is = c.sum_below-right.ensures;
    } in
    record {
      variable = c.loop-value.invariant.variable;
      cell = c.loop-value.invariant.cell;
      none = none_more (value_difference c.args.sizes.now (targets c.args.own.now) (targets c.args.children.now) c.args.util.now c.args.k) c.loop-value.value c.loop-value.invariant.none
          (same_at c.args.sizes.now (targets c.args.own.now) (targets c.args.children.now) c.args.util.now c.args.k c.loop-value.values c.var-in-loop-value.inside.0 c.loop-value.value (get_or c.as_slice.result.now c.args.k 0) c.sum_below-right.result
          seen c.if-right-left.false);
      at = stays c.args.sizes.now c.args.util.now c.args.k c.loop-value.values c.var-in-loop-value.inside.0 c.loop-value.value (c.var-in-loop-value.view_is ∙ c.loop-value.invariant.variable) c.loop-value.invariant.at c.requires.fit.apart
          (lower c.args.sizes.now c.loop-value.value c.var.inside.0 c.args.util.now.var c.var.view_is c.loop-value-test.true);
    }
