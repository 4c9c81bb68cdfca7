use Rattle.std.proofs.Common.{take}
use Rattle.delivery_core.specs.Agents.{network_of}
use Rattle.delivery_core.specs.Shown.{RunsTo}
use Rattle.delivery_core.proofs.replaying.replay.Given as goal

abbrev pub invariant-loop-at : goal.invariant-loop-at
invariant-loop-at l = RunsTo l.fn.problem (network_of l.fn.problem l.fn.start) (take l.at l.fn.events) l.state
