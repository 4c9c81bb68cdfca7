use Rattle.std.proofs.Common.{◌≡◌, map, take}
use Rattle.protocol_steps.specs.View.{value_of}
use Rattle.delivery_core.proofs.outcome.values_of.Given as goal

abbrev pub invariant-loop-seat : goal.invariant-loop-seat
invariant-loop-seat l = l.values.items ≡ map (λ x. value_of x.view) (take l.seat-index l.seats)
