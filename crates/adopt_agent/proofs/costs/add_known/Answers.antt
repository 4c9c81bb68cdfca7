use Rattle.adopt_agent.proofs.GrowLaws.{costs_grow}
use Rattle.adopt_agent.proofs.costs.add_known.Goals as goal

pub returns : goal.returns
returns c = λ before grown costed. costs_grow c.args.own.now c.args.place.now before c.args.known.now c.args.var grown c.requires.other c.args.costs.now c.add_tables.new.costs costed c.add_tables.ensures
