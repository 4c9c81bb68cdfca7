use Rattle.std.proofs.Common.{arith}
use Rattle.std.specs.Int.{w16, w32}
use Rattle.std.proofs.lemmas.Result.{err_from_is_err_and}
use Rattle.dcop_base.specs.Limits.{variable_limit, size_limit}
use Rattle.message_code.specs.Form.{number}
use Rattle.message_code.proofs.NumberLaws.{wide32}
use Rattle.message_code.proofs.PartLaws.{stopped_first, field_stops}
use Rattle.message_code.proofs.context.pair_at.Goals as goal

pub returns-in_err-variable-clause-read : goal.returns-in_err-variable-clause-read
returns-in_err-variable-clause-read c =
    let p = err_from_is_err_and c.from_residual.result c.from_residual.ensures.1 in
    rw (p.1, p.2) (stopped_first (number w32 c.args.least variable_limit) (λ next v. number w16 0 size_limit (λ a. next v)) c.args.bytes.now c.in_err-variable.field-0.0 c.in_err-variable.ensures.read)

pub returns-in_err-value-clause-read : goal.returns-in_err-value-clause-read
returns-in_err-value-clause-read c =
    let p = err_from_is_err_and c.from_residual-in_err-value.result c.from_residual-in_err-value.ensures.1 in
    let range = c.in_ok-variable.ensures.range in
    rw (p.1, p.2) (field_stops w32 _ wide32 c.args.least variable_limit c.in_ok-variable.variable (λ v next. number w16 0 size_limit (λ a. next v)) c.args.bytes.now c.in_ok-variable.rest.now c.in_err-value.field-0.0
    c.in_ok-variable.ensures.read (omega (arith, range.1)) range.0 range.1 (stopped_first (number w16 0 size_limit) (λ next a. next c.in_ok-variable.variable) c.in_ok-variable.rest.now c.in_err-value.field-0.0 c.in_err-value.ensures.read))
