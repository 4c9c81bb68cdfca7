use Rattle.std.proofs.Common.{sym, subst}
use Rattle.std.specs.List.Sorted.{IsStrictlyIncreasing}
use Rattle.adopt_agent.proofs.agent.AdoptAgent.tell_lower.Goals as goal

pub is_among-requires : goal.is_among-requires
is_among-requires c = record { ascend = subst IsStrictlyIncreasing (sym c.as_slice.ensures) c.self.invariant.ground.placed.lower.0 }
