use Rattle.agent_links.specs.declared.agent.Kind.TheVariants.{Token, Dpop, Adopt}
use Rattle.agent_links.proofs.KindLaws.{sent_by}
use Rattle.agent_links.proofs.agent.AgentMachine.react.Goals as goal

pub returns-in-Token-clause-receivers : goal.returns-in-Token-clause-receivers
returns-in-Token-clause-receivers c = sent_by c.args.self.now.kind (Token c.in-Token.agent) c.react.new.out c.in-Token.is c.react.ensures.receivers

pub returns-in-Dpop-clause-receivers : goal.returns-in-Dpop-clause-receivers
returns-in-Dpop-clause-receivers c = sent_by c.args.self.now.kind (Dpop c.in-Dpop.agent) c.react-in-Dpop.new.out c.in-Dpop.is c.react-in-Dpop.ensures.receivers

pub returns-in-Adopt-clause-receivers : goal.returns-in-Adopt-clause-receivers
returns-in-Adopt-clause-receivers c = sent_by c.args.self.now.kind (Adopt c.in-Adopt.agent) c.react-in-Adopt.new.out c.in-Adopt.is c.react-in-Adopt.ensures.receivers
