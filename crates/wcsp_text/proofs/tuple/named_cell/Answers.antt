use Rattle.std.proofs.Common.{◌≡◌, ℕ, ◌<◌, false, nat_le, get_or, arith, sym, ◌∙◌}
use Rattle.std.proofs.lemmas.Bool.Decides.{nat_tests}
use Rattle.wcsp_text.specs.declared.tuple.Named.{Named}
use Rattle.wcsp_text.specs.Numbers.{Place, place, number}
use Rattle.wcsp_text.specs.Words.{words}
use Rattle.wcsp_text.specs.Cells.{values_read}
use Rattle.wcsp_text.specs.Gives.{named}
use Rattle.wcsp_text.proofs.EndLaws.{gives-up}
use Rattle.wcsp_text.proofs.TupleLaws.{named-more, named-err, bound-more, bound-sum}
use Rattle.wcsp_text.proofs.tuple.named_cell.Goals as goal

pub returns-in_err-number-clause-read : goal.returns-in_err-number-clause-read
returns-in_err-number-clause-read c =
    gives-up {B = Named} {C = ℕ × Place} (λ n. (n.place, place n.after.now)) (number (words c.loop-size.rest.now)) (named 0 c.args.sizes.now (values_read c.args.sizes.now (place c.args.text.now))) c.in_err-number.field-0.0 c.from_residual.result c.from_residual.ensures.1 c.in_err-number.ensures
    (λ fault is. sym c.loop-size.invariant.0 ∙ named-err c.args.sizes.now c.loop-size.rest.now c.loop-size.size-index c.loop-size.cell fault c.loop-size-test.true is)

pub overflow_mul-cell : goal.overflow_mul-cell
overflow_mul-cell c =
    let small : c.in_ok-number.number.value < get_or c.args.sizes.now c.loop-size.size-index 0 = omega (arith, c.if-number-from.false, c.from.ensures) in
    let whole = bound-sum c.args.sizes.now c.loop-size.size-index c.loop-size.cell c.in_ok-number.number.value 4194304 c.loop-size-test.true c.requires.some (omega (arith, c.loop-size.invariant.1, c.requires.few)) small in
    rw c.from-in-loop-size.ensures (omega (arith, whole))

pub overflow_add-cell : goal.overflow_add-cell
overflow_add-cell c =
    let small : c.in_ok-number.number.value < get_or c.args.sizes.now c.loop-size.size-index 0 = omega (arith, c.if-number-from.false, c.from.ensures) in
    let whole = bound-sum c.args.sizes.now c.loop-size.size-index c.loop-size.cell c.in_ok-number.number.value 4194304 c.loop-size-test.true c.requires.some (omega (arith, c.loop-size.invariant.1, c.requires.few)) small in
    rw c.from-in-loop-size.ensures (omega (arith, whole))

pub loop-size-preserved : goal.loop-size-preserved
loop-size-preserved c =
    let small : c.in_ok-number.number.value < get_or c.args.sizes.now c.loop-size.size-index 0 = omega (arith, c.if-number-from.false, c.from.ensures) in
    let below : nat_le (get_or c.args.sizes.now c.loop-size.size-index 0) c.in_ok-number.number.value ≡ false = grind (arith, nat_tests, small) in
    let more = named-more c.args.sizes.now c.loop-size.rest.now c.loop-size.size-index c.loop-size.cell c.in_ok-number.number.value (place c.in_ok-number.number.after.now) c.loop-size-test.true c.in_ok-number.ensures below in
    rw c.from-in-loop-size.ensures (sym more ∙ c.loop-size.invariant.0, bound-more c.args.sizes.now c.loop-size.size-index c.loop-size.cell c.in_ok-number.number.value _ c.loop-size-test.true c.loop-size.invariant.1 small)
