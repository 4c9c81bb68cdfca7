use Rattle.solve_agents.proofs.WiringLaws.{given_by}
use Rattle.solve_agents.proofs.nodes.Wiring.between.Goals as goal

pub returns-in-Ok-clause-given : goal.returns-in-Ok-clause-given
returns-in-Ok-clause-given g c = λ many. given_by _ c.in-Ok.plan _ _ c.in-Ok.ensures.new c.in-Ok.ensures.wires many
