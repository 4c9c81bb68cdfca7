use Rattle.adopt_context.proofs.ContextLaws.{ascends_either}
use Rattle.adopt_context.proofs.context.AgentContext.set.Goals as goal

pub invariant_of-self : goal.invariant_of-self
invariant_of-self c =
    ascends_either c.put.result c.self.inside.pairs.items c.put.new.pairs.items c.args.var c.args.value c.self.invariant c.put.ensures.given c.put.ensures.kept
