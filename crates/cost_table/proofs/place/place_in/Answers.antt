use Rattle.cost_table.proofs.PlaceLaws.{found-some, found-none}
use Rattle.cost_table.proofs.place.place_in.Goals as goal

pub returns-in-Some : goal.returns-in-Some
returns-in-Some c = found-some c.args.vars.now c.args.var c.in-Some.place c.in-Some.ensures

pub returns-in-None : goal.returns-in-None
returns-in-None c = found-none c.args.vars.now c.args.var c.in-None.ensures
