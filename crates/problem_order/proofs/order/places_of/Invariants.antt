use Rattle.std.proofs.Common.{◌≡◌, length}
use Rattle.problem_order.proofs.OrderLaws.{StandUpTo}
use Rattle.problem_order.proofs.order.places_of.Given as goal

abbrev pub invariant-loop-index : goal.invariant-loop-index
invariant-loop-index l = (length l.places.items ≡ length l.vars) × StandUpTo l.vars l.places.items l.index
