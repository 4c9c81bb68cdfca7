use Rattle.std.proofs.Common.{arith}
use Rattle.problem_order.proofs.NameLaws.{next_label}
use Rattle.problem_order.proofs.reordering.copy_of.Goals as goal

pub loop-value-preserved : goal.loop-value-preserved
loop-value-preserved c =
    let many = c.len-value-end.ensures.many in
    let low = c.loop-value-test.true in
    next_label c.args.labels.now c.loop-value.copy c.push.new.self c.loop-value.value c.name.result.now c.len-value-end.ensures.distinct (omega (arith, many, low)) c.name.ensures
    c.loop-value.invariant c.in_ok-push.ensures.names
