use Rattle.std.proofs.Common.{◌+◌, arith}
use Rattle.std.specs.Int.{w32}
use Rattle.std.proofs.lemmas.Result.{err_from_is_err_and}
use Rattle.dcop_base.specs.Limits.{variable_limit}
use Rattle.message_code.specs.Form.{number, numbers}
use Rattle.message_code.proofs.NumberLaws.{wide32}
use Rattle.message_code.proofs.PartLaws.{stopped_first, field_stops}
use Rattle.message_code.proofs.list.variables_at.Goals as goal

pub returns-in_err-count-clause-read : goal.returns-in_err-count-clause-read
returns-in_err-count-clause-read c =
    let p = err_from_is_err_and c.from_residual.result c.from_residual.ensures.1 in
    rw (p.1, p.2) (stopped_first (number w32 0 (variable_limit + 1)) (λ next k. numbers w32 variable_limit k next) c.args.bytes.now c.in_err-count.field-0.0 c.in_err-count.ensures.read)

pub returns-in_err-variables-clause-read : goal.returns-in_err-variables-clause-read
returns-in_err-variables-clause-read c =
    let p = err_from_is_err_and c.from_residual-in_err-variables.result c.from_residual-in_err-variables.ensures.1 in
    let range = c.in_ok-count.ensures.range in
    rw (p.1, p.2) (field_stops w32 _ wide32 0 (variable_limit + 1) c.in_ok-count.count (numbers w32 variable_limit) c.args.bytes.now c.in_ok-count.rest.now c.in_err-variables.field-0.0
    c.in_ok-count.ensures.read (omega (arith, range.1)) range.0 range.1 c.in_err-variables.ensures.read)
