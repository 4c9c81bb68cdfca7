use Rattle.std.proofs.Common.{min, ◌*◌, ap, ◌∙◌}
use Rattle.dcop_base.proofs.TableLaws.{capped-more}
use Rattle.dcop_base.proofs.size.product_of.Goals as goal

pub loop-size-preserved : goal.loop-size-preserved
loop-size-preserved c =
    let capped = c.saturating_mul-product.ensures ∙ ap (λ s. min (c.loop-size.product * s) 18446744073709551615) c.from.ensures in
    capped-more c.args.sizes.now c.loop-size.size-index c.loop-size.product c.saturating_mul-product.result 18446744073709551615 c.loop-size-test.true capped c.loop-size.invariant.1
