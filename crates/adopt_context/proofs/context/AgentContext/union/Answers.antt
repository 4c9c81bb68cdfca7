use Rattle.adopt_context.proofs.ContextLaws.{ascends_joined}
use Rattle.adopt_context.proofs.context.AgentContext.union.Goals as goal

pub invariant_of-self : goal.invariant_of-self
invariant_of-self c =
    ascends_joined c.join.result c.self.inside.pairs.items c.join.new.pairs.items c.as_slice.result.now c.self.invariant c.join.ensures.joined c.join.ensures.kept
