use Rattle.std.proofs.Common.{◌+◌, arith}
use Rattle.std.specs.Int.{w64}
use Rattle.std.proofs.lemmas.Result.{err_from_is_err_and}
use Rattle.dcop_base.specs.Limits.{amount_limit}
use Rattle.message_code.proofs.NumberLaws.{wide64}
use Rattle.message_code.proofs.ListLaws.{numbers_stop}
use Rattle.message_code.proofs.list.so_many_amounts.Goals as goal

pub returns-in_err-amount-clause-read : goal.returns-in_err-amount-clause-read
returns-in_err-amount-clause-read c =
    let p = err_from_is_err_and c.from_residual-in_err-amount.result c.from_residual-in_err-amount.ensures.1 in
    rw (p.1, p.2) (numbers_stop w64 _ (amount_limit + 1) wide64 (omega arith) c.args.bytes.now c.loop.amounts.items c.args.count c.loop.counter c.loop.rest.now c.in_err-amount.field-0.0
    c.loop.invariant.taken c.loop-test.true c.in_err-amount.ensures.read)
