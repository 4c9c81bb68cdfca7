use Rattle.std.specs.Prelude.{IsSome}
use Rattle.test_threads.proofs.wires.pumps.waits_for_good.Given as goal

abbrev pub invariant-loop : goal.invariant-loop
invariant-loop g l = IsSome l.pump.state
