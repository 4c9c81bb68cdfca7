use Rattle.std.proofs.Common.{◌≡◌, map, drop}
use Rattle.protocol_steps.specs.View.{value_of}
use Rattle.delivery_core.specs.State.{views_of}
use Rattle.minimised_problem.specs.Differences.{value_difference}
use Rattle.log_check.proofs.end.value_difference.Given as goal

abbrev pub invariant-loop-at : goal.invariant-loop-at
invariant-loop-at l =
    value_difference 0 l.values (map value_of (views_of l.core.seats)) ≡ value_difference l.at (drop l.at l.values) (drop l.at (map value_of (views_of l.core.seats)))
