use Rattle.std.proofs.Common.{◌≡◌, ℕ, List, [], ◌-◌, ◌+◌, suc, arith, sym, ap, ◌∙◌, length}
use Rattle.wcsp_text.specs.declared.function.ReadFunction.{ReadFunction}
use Rattle.wcsp_text.specs.declared.function.ReadFunctions.{ReadFunctions}
use Rattle.wcsp_text.specs.Numbers.{Place, place}
use Rattle.wcsp_text.specs.Functions.{Function, function_read, functions_read}
use Rattle.wcsp_text.proofs.EndLaws.{gives-up}
use Rattle.wcsp_text.proofs.ScopeLaws.{functions-more, functions-err, cells-push}
use Rattle.wcsp_text.proofs.function.functions_of.Goals as goal

pub returns-in_err-read : goal.returns-in_err-read
returns-in_err-read c =
    let left : c.args.count - c.loop.counter ≡ suc (c.args.count - (c.loop.counter + 1)) = omega (arith, c.loop-test.true) in
    gives-up {B = ReadFunctions} {C = List Function × Place} (λ r. (r.functions.items, place r.after.now)) (function_read c.args.sizes.now c.loop.cells (place c.loop.rest.now)) (functions_read c.args.sizes.now [] c.args.count (place c.args.text.now)) c.in_err-read.field-0.0 c.from_residual.result c.from_residual.ensures.1 c.in_err-read.ensures.read
    (λ fault is. sym c.loop.invariant.0 ∙ functions-err c.args.sizes.now c.loop.functions.items (c.args.count - (c.loop.counter + 1)) (c.args.count - c.loop.counter) (place c.loop.rest.now) fault left (rw c.loop.invariant.1 at is))

pub loop-preserved : goal.loop-preserved
loop-preserved c =
    let left : c.args.count - c.loop.counter ≡ suc (c.args.count - (c.loop.counter + 1)) = omega (arith, c.loop-test.true) in
    let cells : c.as_slice.result.now ≡ c.in_ok-read.read.function.table.cells = c.as_slice.ensures ∙ ap (λ (r : ReadFunction). r.function.table.cells) c.read.view_is in
    let is = rw c.loop.invariant.1 at c.in_ok-read.ensures.read in
    let more = functions-more c.args.sizes.now c.loop.functions.items c.in_ok-read.read.function (c.args.count - (c.loop.counter + 1)) (c.args.count - c.loop.counter) (place c.loop.rest.now) (place c.in_ok-read.read.after.now) left is in
    rw (c.in_ok-push.ensures.items, cells) (sym more ∙ c.loop.invariant.0, ap (λ (n : ℕ). n + length c.in_ok-read.read.function.table.cells) c.loop.invariant.1 ∙ sym (cells-push c.loop.functions.items c.in_ok-read.read.function), c.in_ok-read.ensures.cells)
