use Rattle.std.proofs.Common.{sym, subst}
use Rattle.dcop_base.specs.declared.knowledge.Private.{Private}
use Rattle.protocol_steps.specs.Knowledge.{IsKnowledge}
use Rattle.agent_links.proofs.SeatLaws.{knowledge_fits}
use Rattle.agent_links.proofs.seats.make_agent.Goals as goal

pub new-requires-in-Dpop-clause-known : goal.new-requires-in-Dpop-clause-known
new-requires-in-Dpop-clause-known c =
    subst (λ (own : Private). IsKnowledge own) (sym c.requires.known) (knowledge_fits c.private_is_knowledge.ensures c.acquaintance_is_knowledge.ensures c.args.problem.now c.args.start.now c.args.own.me c.requires.whole c.requires.inside)

pub new-requires-in-Adopt-clause-known : goal.new-requires-in-Adopt-clause-known
new-requires-in-Adopt-clause-known c =
    subst (λ (own : Private). IsKnowledge own) (sym c.requires.known) (knowledge_fits c.private_is_knowledge.ensures c.acquaintance_is_knowledge.ensures c.args.problem.now c.args.start.now c.args.own.me c.requires.whole c.requires.inside)
