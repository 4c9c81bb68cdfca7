use Rattle.problem_order.proofs.NameLaws.{next_name}
use Rattle.problem_order.proofs.reordering.names_in.Goals as goal

pub loop-var-preserved : goal.loop-var-preserved
loop-var-preserved c =
    next_name c.args.names.now c.loop-var.new c.args.order.now c.loop-var.var-index c.var-item.result c.push.new.self c.name.result.now c.len-count.ensures.distinct c.requires c.loop-var-test.true
    c.var-item.is c.name.ensures c.loop-var.invariant c.in_ok-push.ensures.names
