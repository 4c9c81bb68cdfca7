use Rattle.std.proofs.lemmas.Result.{err_from_is_err_and}
use Rattle.message_code.specs.Code.{amount_code, context_code}
use Rattle.message_code.specs.Form.{Form, context, amount, bound, fields}
use Rattle.message_code.proofs.PartLaws.{stopped_first, stopped_behind}
use Rattle.message_code.proofs.PassLaws.{context_passes, amount_passes}
use Rattle.message_code.proofs.message.cost_at.Goals as goal

pub returns-in_err-context : goal.returns-in_err-context
returns-in_err-context c =
    let p = err_from_is_err_and c.from_residual.result c.from_residual.ensures.1 in
    rw (p.1, p.2) (stopped_first context (λ (next : Form). amount (bound next)) c.args.bytes.now c.in_err-context.field-0.0 c.in_err-context.ensures.read)

pub returns-in_err-lower : goal.returns-in_err-lower
returns-in_err-lower c =
    let p = err_from_is_err_and c.from_residual-in_err-lower.result c.from_residual-in_err-lower.ensures.1 in
    rw (p.1, p.2) (stopped_behind (fields 6) (λ next. amount (bound next)) c.args.bytes.now (context_code c.in_ok-context.context) c.in_ok-context.rest.now c.in_err-lower.field-0.0 c.in_ok-context.ensures.read (λ next. context_passes c.in_ok-context.context c.in_ok-context.rest.now c.in_ok-context.ensures.ascends c.in_ok-context.ensures.range (amount (bound next))) (stopped_first amount (λ (next : Form). bound next) c.in_ok-context.rest.now c.in_err-lower.field-0.0 c.in_err-lower.ensures.read))

pub returns-in_err-upper : goal.returns-in_err-upper
returns-in_err-upper c =
    let p = err_from_is_err_and c.from_residual-in_err-upper.result c.from_residual-in_err-upper.ensures.1 in
    rw (p.1, p.2) (stopped_behind (fields 6) (λ next. amount (bound next)) c.args.bytes.now (context_code c.in_ok-context.context) c.in_ok-context.rest.now c.in_err-upper.field-0.0 c.in_ok-context.ensures.read (λ next. context_passes c.in_ok-context.context c.in_ok-context.rest.now c.in_ok-context.ensures.ascends c.in_ok-context.ensures.range (amount (bound next))) (stopped_behind (λ next. amount (bound next)) bound c.in_ok-context.rest.now (amount_code c.in_ok-lower.lower) c.in_ok-lower.rest.now c.in_err-upper.field-0.0 c.in_ok-lower.ensures.read (λ next. amount_passes c.in_ok-lower.lower c.in_ok-lower.rest.now c.in_ok-lower.ensures.range (bound next)) c.in_err-upper.ensures.read))
