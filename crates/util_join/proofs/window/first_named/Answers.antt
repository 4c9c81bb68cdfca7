use Rattle.std.proofs.Common.{◌∙◌, sym}
use Rattle.std.proofs.lemmas.Grind.{get_or_default_zero}
use Rattle.util_join.proofs.WindowLaws.{unnamed-more}
use Rattle.util_join.proofs.window.first_named.Goals as goal

pub loop-k-preserved : goal.loop-k-preserved
loop-k-preserved c =
    let over = c.args.over.now in
    let k = c.loop-k.k in
    let var = c.index-over-k.result in
    unnamed-more c.args.scope.now over k var (c.index-over-k.is ∙ get_or_default_zero over k var c.loop-k-test.true) (sym c.stands_in.ensures ∙ c.if-stands_in.false) c.loop-k.invariant
