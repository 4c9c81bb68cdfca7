use Rattle.std.proofs.Common.{refl, ◌∙◌, arith}
use Rattle.dcop_base.proofs.PlaceLaws.{told_next, told_below}
use Rattle.dcop_base.proofs.place.place_of.Goals as goal

pub overflow_mul-place : goal.overflow_mul-place
overflow_mul-place g c =
    let few = c.requires.few in
    let sizes = few.0 in
    let values = few.1 in
    let all = few.2 in
    let lt = c.loop-k-test.true in
    let below = told_below (goal.F-post g c.args.digit) c.args.count c.loop-k.k c.digit-size.result sizes values all lt c.digit-size.ensures c.from.result c.digit-size.result.1 c.from.ensures refl c.loop-k.place (c.loop-k.invariant sizes values all) in
    omega (arith, below, few.3)

pub overflow_add-place : goal.overflow_add-place
overflow_add-place g c =
    let few = c.requires.few in
    let sizes = few.0 in
    let values = few.1 in
    let all = few.2 in
    let lt = c.loop-k-test.true in
    let below = told_below (goal.F-post g c.args.digit) c.args.count c.loop-k.k c.digit-size.result sizes values all lt c.digit-size.ensures c.from.result c.from-in-loop-k.result c.from.ensures (c.from-in-loop-k.ensures ∙ c.value.view_is) c.loop-k.place (c.loop-k.invariant sizes values all) in
    omega (arith, below, few.3)

pub loop-k-preserved : goal.loop-k-preserved
loop-k-preserved g c sizes values all =
    told_next (goal.F-post g c.args.digit) c.args.count c.loop-k.k c.digit-size.result sizes values all c.loop-k-test.true c.digit-size.ensures c.from.result c.from-in-loop-k.result c.from.ensures (c.from-in-loop-k.ensures ∙ c.value.view_is) c.loop-k.place (c.loop-k.invariant sizes values all)
