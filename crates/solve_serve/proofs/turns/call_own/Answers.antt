use Rattle.std.proofs.Common.{◌∷◌, refl}
use Rattle.solve_serve.proofs.TurnLaws.{changes_one}
use Rattle.solve_serve.proofs.turns.call_own.Goals as goal

pub returns : goal.returns
returns g c =
    changes_one g.F.Fn c.args.call.now c.args.place c.args.own.now (c.call_one.new.item ∷ c.in-Some._none.now) c.in-Some.item.now c.call_one.new.item c.in-Some._none.now
    c.in-Some.ensures.cases.0 refl c.requires.one c.call_one.ensures
