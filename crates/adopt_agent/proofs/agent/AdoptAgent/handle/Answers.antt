use Rattle.adopt_agent.proofs.MessageLaws.{value_handled}
use Rattle.adopt_agent.proofs.agent.AdoptAgent.handle.Goals as goal

pub returns-in-Value-clause-taken : goal.returns-in-Value-clause-taken
returns-in-Value-clause-taken c =
    value_handled c.args.self.now c.take_value.new.self c.take_value.result c.letter.inside.from c.in-Value.value c.letter.inside.message c.args.letter.now c.in-Value.is c.letter.view_is c.take_value.ensures.taken
