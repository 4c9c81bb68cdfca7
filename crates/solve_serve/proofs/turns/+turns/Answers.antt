use Rattle.std.proofs.Common.{◌≡◌, length, rules}
use Rattle.solve_serve.proofs.TurnLaws.{accepts_own, accepts_rest, changes_own}
use Rattle.solve_serve.proofs.turns.+turns.Goals as goal

pub each_from-own_beside-requires-clause-own : goal.each_from-own_beside-requires-clause-own
each_from-own_beside-requires-clause-own g t c κs within =
    let cut = c.split_at_mut-own in
    accepts_own g.F.Fn c.args.call.now c.args.place c.args.items.now cut.result.0.now cut.result.1.now cut.ensures.value cut.ensures.front_len c.requires.accepts

pub each_from-own_beside-requires-clause-rest : goal.each_from-own_beside-requires-clause-rest
each_from-own_beside-requires-clause-rest g t c κs within =
    let cut = c.split_at_mut-own in
    accepts_rest g.F.Fn c.args.call.now c.args.place c.args.items.now cut.result.0.now cut.result.1.now cut.ensures.value cut.ensures.front_len c.requires.accepts

pub each_from-returns : goal.each_from-returns
each_from-returns g t c =
    let cut = c.split_at_mut-own in
    let kept : length c.own_beside.new.own ≡ 1 = search rules in
    changes_own g.F.Fn c.args.call.now c.args.place c.args.items.now cut.result.0.now cut.result.1.now c.own_beside.new.own c.own_beside.new.rest
    cut.ensures.value cut.ensures.front_len kept c.own_beside.ensures.own c.own_beside.ensures.rest
