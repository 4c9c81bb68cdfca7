use Rattle.protocol_steps.proofs.PrivateLaws.{acquaintances_are_knowledge}
use Rattle.protocol_steps.proofs.law.acquaintance_is_knowledge.Goals as goal

pub returns : goal.returns
returns c = acquaintances_are_knowledge
