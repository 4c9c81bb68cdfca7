use Rattle.std.proofs.Common.{◌≡◌, ◌-◌, ◌+◌, suc, arith, sym, ◌∙◌}
use Rattle.std.proofs.lemmas.List.{length-set}
use Rattle.wcsp_text.specs.Numbers.{place}
use Rattle.wcsp_text.proofs.TupleLaws.{filled-more, filled-end}
use Rattle.wcsp_text.proofs.tuple.fill.Goals as goal

pub loop-preserved : goal.loop-preserved
loop-preserved c =
    let left : c.args.count - c.loop.counter ≡ suc (c.args.count - (c.loop.counter + 1)) = omega (arith, c.loop-test.true) in
    let more = filled-more c.args.sizes.now c.loop.cells c.loop.rest.now (c.args.count - (c.loop.counter + 1)) (c.args.count - c.loop.counter) c.in_ok-named.named.place c.in_ok-cost.cost.value (place c.in_ok-named.named.after.now) (place c.in_ok-cost.cost.after.now) left c.in_ok-named.ensures.read c.in_ok-cost.ensures in
    (sym more ∙ c.loop.invariant.0, length-set c.loop.cells c.in_ok-named.named.place c.in_ok-cost.cost.value ∙ c.loop.invariant.1)

pub returns-clause-read : goal.returns-clause-read
returns-clause-read c = sym c.loop.invariant.0 ∙ filled-end c.args.sizes.now c.loop.cells (c.args.count - c.loop.counter) (place c.loop.rest.now) (omega (arith, c.loop-test.false))
