use Rattle.std.proofs.Common.{◌≡◌, ℕ, ◌<◌, List, [], ◌-◌, ◌+◌, suc, false, true, nat_le, arith, sym, ap, ◌∙◌, ◌∷◌, length-append}
use Rattle.std.proofs.lemmas.List.Elements.{All-push}
use Rattle.std.proofs.lemmas.Bool.Decides.{nat_tests}
use Rattle.wcsp_text.specs.declared.scope.ReadScope.{ReadScope}
use Rattle.wcsp_text.specs.Numbers.{Place, place, number}
use Rattle.wcsp_text.specs.Words.{words}
use Rattle.wcsp_text.specs.Functions.{scope_read}
use Rattle.wcsp_text.proofs.EndLaws.{gives-up}
use Rattle.wcsp_text.proofs.ScopeLaws.{scope-more, scope-err, scope-above, scope-twice, apart-push}
use Rattle.wcsp_text.proofs.scope.scope_of.Goals as goal

pub returns-in_err-number-clause-read : goal.returns-in_err-number-clause-read
returns-in_err-number-clause-read c =
    let left : c.args.arity - c.loop.counter ≡ suc (c.args.arity - (c.loop.counter + 1)) = omega (arith, c.loop-test.true) in
    gives-up {B = ReadScope} {C = List ℕ × Place} (λ s. (s.vars.items, place s.after.now)) (number (words c.loop.rest.now)) (scope_read c.args.variables [] c.args.arity (place c.args.text.now)) c.in_err-number.field-0.0 c.from_residual.result c.from_residual.ensures.1 c.in_err-number.ensures
    (λ fault is. sym c.loop.invariant.0 ∙ scope-err c.args.variables (c.args.arity - (c.loop.counter + 1)) (c.args.arity - c.loop.counter) c.loop.vars.items c.loop.rest.now fault left is)

pub returns-then-number-variables-clause-read : goal.returns-then-number-variables-clause-read
returns-then-number-variables-clause-read c =
    let left : c.args.arity - c.loop.counter ≡ suc (c.args.arity - (c.loop.counter + 1)) = omega (arith, c.loop-test.true) in
    let above : nat_le c.args.variables c.in_ok-number.number.value ≡ true = grind (arith, nat_tests, c.if-number-variables.true) in
    rw c.fault_before.ensures (sym c.loop.invariant.0 ∙ scope-above c.args.variables c.in_ok-number.number.value (c.args.arity - (c.loop.counter + 1)) (c.args.arity - c.loop.counter) c.loop.vars.items c.loop.rest.now (place c.in_ok-number.number.after.now) left c.in_ok-number.ensures above)

pub returns-then-stands_in-clause-read : goal.returns-then-stands_in-clause-read
returns-then-stands_in-clause-read c =
    let left : c.args.arity - c.loop.counter ≡ suc (c.args.arity - (c.loop.counter + 1)) = omega (arith, c.loop-test.true) in
    let below : nat_le c.args.variables c.in_ok-number.number.value ≡ false = grind (arith, nat_tests, c.if-number-variables.false) in
    let twice = rw c.as_slice.ensures.value at (sym c.if-stands_in.ensures) in
    rw c.fault_before-then-stands_in.ensures (sym c.loop.invariant.0 ∙ scope-twice c.args.variables c.in_ok-number.number.value (c.args.arity - (c.loop.counter + 1)) (c.args.arity - c.loop.counter) c.loop.vars.items c.loop.rest.now (place c.in_ok-number.number.after.now) left c.in_ok-number.ensures below twice)

pub loop-preserved : goal.loop-preserved
loop-preserved c =
    let left : c.args.arity - c.loop.counter ≡ suc (c.args.arity - (c.loop.counter + 1)) = omega (arith, c.loop-test.true) in
    let below : nat_le c.args.variables c.in_ok-number.number.value ≡ false = grind (arith, nat_tests, c.if-number-variables.false) in
    let new = rw c.as_slice.ensures.value at (sym c.if-stands_in.ensures) in
    let more = scope-more c.args.variables c.in_ok-number.number.value (c.args.arity - (c.loop.counter + 1)) (c.args.arity - c.loop.counter) c.loop.vars.items c.loop.rest.now (place c.in_ok-number.number.after.now) left c.in_ok-number.ensures below new in
    rw c.in_ok-push.ensures.items (sym more ∙ c.loop.invariant.0, All-push (λ v. v < c.args.variables) c.loop.vars.items c.in_ok-number.number.value c.loop.invariant.1 (omega (arith, c.if-number-variables.false)), apart-push c.loop.vars.items c.in_ok-number.number.value c.loop.invariant.2 new, length-append c.loop.vars.items (c.in_ok-number.number.value ∷ []) ∙ ap (λ (n : ℕ). n + 1) c.loop.invariant.3)
