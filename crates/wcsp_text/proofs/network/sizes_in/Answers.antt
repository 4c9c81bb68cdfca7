use Rattle.std.proofs.Common.{◌≡◌, ℕ, List, [], ◌-◌, ◌+◌, suc, arith, sym, ap, ◌∙◌, ◌∷◌, length-append}
use Rattle.wcsp_text.specs.declared.network.ReadSizes.{ReadSizes}
use Rattle.wcsp_text.specs.Numbers.{Place, place, number}
use Rattle.wcsp_text.specs.Words.{words}
use Rattle.wcsp_text.specs.Networks.{sizes_read}
use Rattle.wcsp_text.proofs.EndLaws.{gives-up}
use Rattle.wcsp_text.proofs.ScopeLaws.{sizes-more, sizes-err, sizes-bad, sizes-push}
use Rattle.wcsp_text.proofs.network.sizes_in.Goals as goal

pub returns-in_err-size-clause-read : goal.returns-in_err-size-clause-read
returns-in_err-size-clause-read c =
    let left : c.args.count - c.loop.counter ≡ suc (c.args.count - (c.loop.counter + 1)) = omega (arith, c.loop-test.true) in
    gives-up {B = ReadSizes} {C = List ℕ × Place} (λ r. (r.sizes.items, place r.after.now)) (number (words c.loop.rest.now)) (sizes_read c.args.count (place c.args.text.now)) c.in_err-size.field-0.0 c.from_residual.result c.from_residual.ensures.1 c.in_err-size.ensures
    (λ fault is. sym c.loop.invariant.0 ∙ sizes-err c.loop.sizes.items c.loop.rest.now (c.args.count - (c.loop.counter + 1)) (c.args.count - c.loop.counter) fault left is)

pub returns-then-is_bad-clause-read : goal.returns-then-is_bad-clause-read
returns-then-is_bad-clause-read c =
    let left : c.args.count - c.loop.counter ≡ suc (c.args.count - (c.loop.counter + 1)) = omega (arith, c.loop-test.true) in
    rw c.fault_before.ensures (sym c.loop.invariant.0 ∙ sizes-bad c.loop.sizes.items c.loop.rest.now c.in_ok-size.size.value (c.args.count - (c.loop.counter + 1)) (c.args.count - c.loop.counter) (place c.in_ok-size.size.after.now) left c.in_ok-size.ensures (sym c.is_bad.ensures ∙ c.if-is_bad.true))

pub loop-preserved : goal.loop-preserved
loop-preserved c =
    let left : c.args.count - c.loop.counter ≡ suc (c.args.count - (c.loop.counter + 1)) = omega (arith, c.loop-test.true) in
    let good = sym c.is_bad.ensures ∙ c.if-is_bad.false in
    let more = sizes-more c.loop.sizes.items c.loop.rest.now c.in_ok-size.size.value (c.args.count - (c.loop.counter + 1)) (c.args.count - c.loop.counter) (place c.in_ok-size.size.after.now) left c.in_ok-size.ensures good in
    rw c.in_ok-push.ensures.items (sym more ∙ c.loop.invariant.0, length-append c.loop.sizes.items (c.in_ok-size.size.value ∷ []) ∙ ap (λ (n : ℕ). n + 1) c.loop.invariant.1, sizes-push c.loop.sizes.items c.in_ok-size.size.value c.loop.invariant.2 good)
