use Rattle.std.proofs.Common.{take}
use Rattle.std.specs.List.{flat_map}
use Rattle.protocol_steps.specs.Dpop.{there}
use Rattle.dpop_agent.specs.Joint.{HasGained}
use Rattle.dpop_agent.proofs.joint.add_kept.Given as goal

abbrev pub invariant-loop-entry : goal.invariant-loop-entry
invariant-loop-entry l = HasGained (flat_map there (take l.entry-index l.kept)) l.fn.joined l.joined
