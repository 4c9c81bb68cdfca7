use Rattle.edit_session.proofs.LoopLaws.{own_known}
use Rattle.edit_session.proofs.remaking.made_from.Goals as goal

pub made_at-requires-clause-known : goal.made_at-requires-clause-known
made_at-requires-clause-known g c =
    let at = c.in-Some.ensures.lookup in
    own_known c.args.problem.now c.args.known.now c.var.inside.0 c.args.var c.in-Some.own.now c.requires.known at.3.0 at.1 c.var.view_is
