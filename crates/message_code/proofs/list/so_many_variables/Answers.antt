use Rattle.std.proofs.Common.{arith}
use Rattle.std.specs.Int.{w32}
use Rattle.std.proofs.lemmas.Result.{err_from_is_err_and}
use Rattle.dcop_base.specs.Limits.{variable_limit}
use Rattle.message_code.proofs.NumberLaws.{wide32}
use Rattle.message_code.proofs.ListLaws.{numbers_stop}
use Rattle.message_code.proofs.list.so_many_variables.Goals as goal

pub returns-in_err-variable-clause-read : goal.returns-in_err-variable-clause-read
returns-in_err-variable-clause-read c =
    let p = err_from_is_err_and c.from_residual-in_err-variable.result c.from_residual-in_err-variable.ensures.1 in
    rw (p.1, p.2) (numbers_stop w32 _ variable_limit wide32 (omega arith) c.args.bytes.now c.loop.variables.items c.args.count c.loop.counter c.loop.rest.now c.in_err-variable.field-0.0
    c.loop.invariant.taken c.loop-test.true c.in_err-variable.ensures.read)
