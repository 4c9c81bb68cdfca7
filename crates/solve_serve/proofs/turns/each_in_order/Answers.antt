use Rattle.solve_serve.proofs.TurnLaws.{accepts_all, changes_all}
use Rattle.solve_serve.proofs.turns.each_in_order.Goals as goal

pub each_from-requires-clause-accepts : goal.each_from-requires-clause-accepts
each_from-requires-clause-accepts g c κs within = accepts_all g.F.Fn c.args.call.now c.args.items.now c.requires.accepts

pub returns : goal.returns
returns g c = changes_all g.F.Fn c.args.call.now c.args.items.now c.each_from.new.items c.each_from.ensures
