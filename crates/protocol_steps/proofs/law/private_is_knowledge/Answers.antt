use Rattle.protocol_steps.proofs.PrivateLaws.{privates_are_knowledge}
use Rattle.protocol_steps.proofs.law.private_is_knowledge.Goals as goal

pub returns : goal.returns
returns c = privates_are_knowledge
