use Rattle.std.proofs.Common.{take}
use Rattle.std.specs.List.{flat_map}
use Rattle.protocol_steps.specs.Dpop.{there}
use Rattle.protocol_steps.specs.Values.{valued}
use Rattle.dpop_agent.specs.Row.{HasRisen}
use Rattle.dpop_agent.proofs.best.add_kept.Given as goal

abbrev pub invariant-loop-entry : goal.invariant-loop-entry
invariant-loop-entry l = HasRisen l.me (valued l.values) (flat_map there (take l.entry-index l.kept)) l.fn.costs l.costs
