use Rattle.problem_order.proofs.OrderLaws.{range_is_places}
use Rattle.problem_order.proofs.order.Order.as_given.Goals as goal

pub invariant_of-result : goal.invariant_of-result
invariant_of-result c = range_is_places c.args.count c.in_ok-first_variables.field-0 c.in_ok-first_variables-2.field-0 c.in_ok-first_variables.ensures c.in_ok-first_variables-2.ensures
