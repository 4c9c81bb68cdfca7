use Rattle.std.proofs.lemmas.Result.{err_from_is_err_and}
use Rattle.message_code.specs.Code.{amount_code}
use Rattle.message_code.specs.Form.{Form, context, amount, fields}
use Rattle.message_code.proofs.PartLaws.{stopped_first, stopped_behind}
use Rattle.message_code.proofs.PassLaws.{amount_passes}
use Rattle.message_code.proofs.message.threshold_at.Goals as goal

pub returns-in_err-amount : goal.returns-in_err-amount
returns-in_err-amount c =
    let p = err_from_is_err_and c.from_residual.result c.from_residual.ensures.1 in
    rw (p.1, p.2) (stopped_first amount (λ (next : Form). context next) c.args.bytes.now c.in_err-amount.field-0.0 c.in_err-amount.ensures.read)

pub returns-in_err-context : goal.returns-in_err-context
returns-in_err-context c =
    let p = err_from_is_err_and c.from_residual-in_err-context.result c.from_residual-in_err-context.ensures.1 in
    rw (p.1, p.2) (stopped_behind (fields 7) context c.args.bytes.now (amount_code c.in_ok-amount.amount) c.in_ok-amount.rest.now c.in_err-context.field-0.0 c.in_ok-amount.ensures.read (λ next. amount_passes c.in_ok-amount.amount c.in_ok-amount.rest.now c.in_ok-amount.ensures.range (context next)) c.in_err-context.ensures.read)
