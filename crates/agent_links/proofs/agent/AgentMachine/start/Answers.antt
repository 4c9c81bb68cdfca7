use Rattle.agent_links.specs.declared.agent.Kind.TheVariants.{Token, Dpop, Adopt}
use Rattle.agent_links.proofs.KindLaws.{sent_by}
use Rattle.agent_links.proofs.agent.AgentMachine.start.Goals as goal

pub returns-in-Token-clause-receivers : goal.returns-in-Token-clause-receivers
returns-in-Token-clause-receivers c = sent_by c.args.self.now.kind (Token c.in-Token.agent) c.start.new.out c.in-Token.is c.start.ensures.receivers

pub returns-in-Dpop-clause-receivers : goal.returns-in-Dpop-clause-receivers
returns-in-Dpop-clause-receivers c = sent_by c.args.self.now.kind (Dpop c.in-Dpop.agent) c.start-in-Dpop.new.out c.in-Dpop.is c.start-in-Dpop.ensures.receivers

pub returns-in-Adopt-clause-receivers : goal.returns-in-Adopt-clause-receivers
returns-in-Adopt-clause-receivers c = sent_by c.args.self.now.kind (Adopt c.in-Adopt.agent) c.start-in-Adopt.new.out c.in-Adopt.is c.start-in-Adopt.ensures.receivers
