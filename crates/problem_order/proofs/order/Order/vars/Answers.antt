use Rattle.problem_order.proofs.OrderLaws.{order_of_places}
use Rattle.problem_order.proofs.order.Order.vars.Goals as goal

pub returns-clause-whole : goal.returns-clause-whole
returns-clause-whole c = rw (← c.self.view_is) (order_of_places c.self.inside.vars c.self.inside.places c.self.invariant)
