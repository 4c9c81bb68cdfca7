use Rattle.std.proofs.Common.{◌≡◌, ◌+◌, ◌*◌, min, get_or, refl, ap, ◌∙◌, arith}
use Rattle.report_reader.proofs.TurnLineLaws.{number-next}
use Rattle.report_reader.proofs.turn_line.number_of.Goals as goal

pub loop-place-preserved : goal.loop-place-preserved
loop-place-preserved c =
    let size = get_or c.args.sizes.now c.loop-place.place 0 in
    let product = c.saturating_mul.ensures ∙ ap (λ n. min (c.loop-place.number * n) 18446744073709551615) c.from.ensures in
    let own = c.from-in-loop-place.ensures ∙ c.value.view_is in
    let new : c.saturating_add-number.result ≡ min (min (c.loop-place.number * size) 18446744073709551615 + c.index-values-place.result) 18446744073709551615 =
    c.saturating_add-number.ensures ∙ ap (λ n. min (n + c.from-in-loop-place.result) 18446744073709551615) product
    ∙ ap (λ n. min (min (c.loop-place.number * size) 18446744073709551615 + n) 18446744073709551615) own in (
      omega (arith, c.saturating_add-number.ensures),
      number-next c.args.sizes.now c.args.values.now c.loop-place.place c.loop-place.number c.saturating_add-number.result size c.index-values-place.result 18446744073709551615 _ (omega arith) (omega (arith, c.requires)) refl c.index-values-place.is new c.loop-place.invariant.1,
    )
