use Rattle.std.proofs.lemmas.Result.{err_from_is_err_and}
use Rattle.message_code.proofs.ContextLaws.{pairs_more, pairs_stop}
use Rattle.message_code.proofs.context.so_many_pairs.Goals as goal

pub returns-in_err-variable-clause-read : goal.returns-in_err-variable-clause-read
returns-in_err-variable-clause-read c =
    let p = err_from_is_err_and c.from_residual.result c.from_residual.ensures.1 in
    rw (p.1, p.2) (pairs_stop c.args.bytes.now c.loop.context c.args.count c.loop.counter c.loop.least c.loop.rest.now c.in_err-variable.field-0.0 c.loop.invariant c.loop-test.true c.in_err-variable.ensures.read)

pub loop-preserved : goal.loop-preserved
loop-preserved c =
    pairs_more c.args.bytes.now c.loop.context c.loop.counter c.loop.least c.loop.rest.now c.in_ok-variable.variable c.in_ok-variable.value c.in_ok-variable.behind.now c.set.new.self
    c.loop.invariant c.in_ok-variable.ensures.range c.in_ok-variable.ensures.read c.in_ok-set.ensures.given
