use Rattle.std.proofs.Common.{map, nat_eq, sym, ◌∙◌}
use Rattle.std.proofs.lemmas.Bool.{eqb-true, eqb-false, not-true, not-false}
use Rattle.std.proofs.lemmas.Option.{slice_get-map}
use Rattle.protocol_steps.specs.View.{value_of}
use Rattle.delivery_core.specs.State.{views_of}
use Rattle.log_check.proofs.ValueLaws.{value_same, value_differs}
use Rattle.log_check.proofs.end.value_difference.Goals as goal

pub returns-then-ne : goal.returns-then-ne
returns-then-ne c =
    let views = views_of c.args.core.now.seats in
    sym (c.loop-at.invariant ∙ value_differs c.args.values.now (map value_of views) c.loop-at.at c.index-values-at.result c.value.result c.loop-at-test.true c.index-values-at.is (slice_get-map value_of views c.loop-at.at ∙ c.value.ensures)
    (eqb-false c.index-values-at.result c.value.result (not-true (nat_eq c.index-values-at.result c.value.result) (sym c.ne.ensures ∙ c.if-ne.true))))

pub loop-at-preserved : goal.loop-at-preserved
loop-at-preserved c =
    let views = views_of c.args.core.now.seats in
    c.loop-at.invariant ∙ value_same c.args.values.now (map value_of views) c.loop-at.at c.index-values-at.result c.value.result c.loop-at-test.true c.index-values-at.is (slice_get-map value_of views c.loop-at.at ∙ c.value.ensures)
    (eqb-true c.index-values-at.result c.value.result (not-false (nat_eq c.index-values-at.result c.value.result) (sym c.ne.ensures ∙ c.if-ne.false)))
