use Rattle.agent_workers.proofs.SettleLaws.{one_home}
use Rattle.agent_workers.proofs.settle.share_node.Goals as goal

pub returns-then-nodes-eq1-clause-together : goal.returns-then-nodes-eq1-clause-together
returns-then-nodes-eq1-clause-together c = λ _. one_home c.args.nodes c.args.agents c.args.one c.args.other c.if-nodes-eq1.true c.requires.inside.0 c.requires.inside.1
