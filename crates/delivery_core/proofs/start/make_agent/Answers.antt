use Rattle.std.proofs.Common.{sym, subst}
use Rattle.dcop_base.specs.declared.knowledge.Private.{Private}
use Rattle.protocol_steps.specs.Knowledge.{IsKnowledge}
use Rattle.delivery_core.proofs.StartLaws.{knowledge_fits}
use Rattle.delivery_core.proofs.start.make_agent.Goals as goal

pub token-requires : goal.token-requires
token-requires c =
    subst (λ (own : Private). IsKnowledge own) (sym c.requires.known) (knowledge_fits c.private_is_knowledge.ensures c.acquaintance_is_knowledge.ensures c.args.problem.now c.args.start.now c.args.own.me c.requires.whole c.requires.inside)

pub dpop-requires-clause-known : goal.dpop-requires-clause-known
dpop-requires-clause-known c =
    subst (λ (own : Private). IsKnowledge own) (sym c.requires.known) (knowledge_fits c.private_is_knowledge.ensures c.acquaintance_is_knowledge.ensures c.args.problem.now c.args.start.now c.args.own.me c.requires.whole c.requires.inside)

pub adopt-requires-clause-known : goal.adopt-requires-clause-known
adopt-requires-clause-known c =
    subst (λ (own : Private). IsKnowledge own) (sym c.requires.known) (knowledge_fits c.private_is_knowledge.ensures c.acquaintance_is_knowledge.ensures c.args.problem.now c.args.start.now c.args.own.me c.requires.whole c.requires.inside)
