use Rattle.std.specs.Int.{w16}
use Rattle.std.proofs.lemmas.Result.{err_from_is_err_and}
use Rattle.dcop_base.specs.Limits.{size_limit}
use Rattle.message_code.specs.Form.{Form, number}
use Rattle.message_code.proofs.PartLaws.{stopped_first}
use Rattle.message_code.proofs.message.value_at.Goals as goal

pub returns-in_err-value : goal.returns-in_err-value
returns-in_err-value c =
    let p = err_from_is_err_and c.from_residual.result c.from_residual.ensures.1 in
    rw (p.1, p.2) (stopped_first (number w16 0 size_limit) (λ (next : Form) a. next) c.args.bytes.now c.in_err-value.field-0.0 c.in_err-value.ensures.read)
