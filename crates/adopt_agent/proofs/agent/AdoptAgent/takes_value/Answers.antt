use Rattle.adopt_agent.proofs.agent.AdoptAgent.takes_value.Goals as goal

pub is_near_above-requires-clause-knowledge : goal.is_near_above-requires-clause-knowledge
is_near_above-requires-clause-knowledge c = c.self.invariant.ground.own_fits

pub is_near_above-requires-clause-placed : goal.is_near_above-requires-clause-placed
is_near_above-requires-clause-placed c = c.self.invariant.ground.placed
