use Rattle.std.proofs.Common.{take}
use Rattle.std.specs.List.{flat_map}
use Rattle.protocol_steps.specs.Dpop.{there}
use Rattle.dpop_agent.specs.Joint.{HasGained}
use Rattle.dpop_agent.specs.Remade.{sent_of}
use Rattle.dpop_agent.proofs.made.add_sent.Given as goal

abbrev pub invariant-loop-child : goal.invariant-loop-child
invariant-loop-child l = HasGained (flat_map there (take l.child-index (sent_of l.kept l.children))) l.fn.joined l.joined
