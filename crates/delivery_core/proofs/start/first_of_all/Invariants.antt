use Rattle.std.proofs.Common.{◌≡◌, map}
use Rattle.protocol_steps.specs.Step.{start_of}
use Rattle.delivery_core.proofs.start.first_of_all.Given as goal

abbrev pub invariant-loop-seat : goal.invariant-loop-seat
invariant-loop-seat l = l.sent.items ≡ map (λ x. (start_of x.view).sends) l.yielded
