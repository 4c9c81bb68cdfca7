use Rattle.std.specs.Prelude.{IsSome}
use Rattle.test_threads.proofs.wires.pumps.poll_to_end.Given as goal

abbrev pub invariant-loop-polls : goal.invariant-loop-polls
invariant-loop-polls g l = IsSome l.pump.state
