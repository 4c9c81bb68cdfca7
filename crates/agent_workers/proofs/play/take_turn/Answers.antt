use Rattle.agent_workers.proofs.play.take_turn.Goals as goal

pub returns-then-all-clause-ok : goal.returns-then-all-clause-ok
returns-then-all-clause-ok g c = rw c.if-all.true c.visit_all.ensures.ok

pub returns-then-all-clause-turn : goal.returns-then-all-clause-turn
returns-then-all-clause-turn g c = rw c.if-all.true c.visit_all.ensures.turn

pub returns-clause-ok : goal.returns-clause-ok
returns-clause-ok g c = rw c.if-all.false c.visit_waiting.ensures.ok

pub returns-clause-turn : goal.returns-clause-turn
returns-clause-turn g c = rw c.if-all.false (c.visit_waiting.ensures.turn c.args.alone)

pub visit_waiting-requires-clause-known : goal.visit_waiting-requires-clause-known
visit_waiting-requires-clause-known g c κs within = c.requires.known c.if-all.false
