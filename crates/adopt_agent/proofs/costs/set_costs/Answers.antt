use Rattle.std.proofs.Common.{length}
use Rattle.adopt_agent.proofs.GrowLaws.{costs_whole}
use Rattle.adopt_agent.proofs.costs.set_costs.Goals as goal

pub returns : goal.returns
returns c = costs_whole c.args.own.now c.args.place.now c.args.known.now c.requires.ground.own_fits (length c.args.costs.now) c.fill.new.self c.add_tables.new.costs (c.fill.ensures.after (λ y h. h)) c.add_tables.ensures
