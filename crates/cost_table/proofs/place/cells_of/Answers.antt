use Rattle.std.proofs.Common.{◌<◌, ◌*◌, sym, ap, ◌∙◌, get_or, arith}
use Rattle.dcop_base.specs.Table.{product}
use Rattle.cost_table.proofs.PlaceLaws.{zero-product, zero-count, count-more, count-over}
use Rattle.cost_table.proofs.place.cells_of.Goals as goal

pub returns-then-have_zero : goal.returns-then-have_zero
returns-then-have_zero c =
    let sizes = c.args.sizes.now in
    zero-count c.args.limit (product sizes) (zero-product sizes (sym c.have_zero.ensures ∙ c.if-have_zero.true))

pub loop-size-preserved : goal.loop-size-preserved
loop-size-preserved c =
    let sizes = c.args.sizes.now in
    let p = c.loop-size.product in
    count-more sizes c.loop-size.size-index p c.in-Some.more (product sizes) c.loop-size-test.true (c.in-Some.ensures.1 ∙ ap (λ s. p * s) c.from.ensures) c.loop-size.invariant

pub returns-in-None : goal.returns-in-None
returns-in-None c =
    let sizes = c.args.sizes.now in
    let p = c.loop-size.product in
    let same = ap (λ s. p * s) c.from.ensures in
    let over : c.args.limit < p * get_or sizes c.loop-size.size-index 0 = omega (arith, same, c.in-None.ensures) in
    count-over sizes c.loop-size.size-index p c.args.limit (product sizes) c.loop-size-test.true over (sym c.have_zero.ensures ∙ c.if-have_zero.false) c.loop-size.invariant
