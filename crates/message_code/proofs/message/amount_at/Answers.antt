use Rattle.std.proofs.Common.{◌+◌}
use Rattle.std.specs.Int.{w64}
use Rattle.std.proofs.lemmas.Result.{err_from_is_err_and}
use Rattle.dcop_base.specs.Limits.{amount_limit}
use Rattle.message_code.specs.Form.{Form, number}
use Rattle.message_code.proofs.PartLaws.{stopped_first}
use Rattle.message_code.proofs.message.amount_at.Goals as goal

pub returns-in_err-amount-clause-read : goal.returns-in_err-amount-clause-read
returns-in_err-amount-clause-read c =
    let p = err_from_is_err_and c.from_residual.result c.from_residual.ensures.1 in
    rw (p.1, p.2) (stopped_first (number w64 0 (amount_limit + 1)) (λ (next : Form) a. next) c.args.bytes.now c.in_err-amount.field-0.0 c.in_err-amount.ensures.read)
