use Rattle.std.proofs.Common.{refl}
use Rattle.solve_serve.proofs.LookLaws.{unanswered}
use Rattle.solve_serve.proofs.answer.answer.Goals as goal

pub returns-in_err-frame-clause-answered : goal.returns-in_err-frame-clause-answered
returns-in_err-frame-clause-answered g c =
    unanswered g.M.Maker.is_reply _ c.args.request c.new.result c.from_residual-in_err-frame.result _ _ c.from_residual-in_err-frame.ensures.1 c.in_ok-reply.ensures.tally refl refl
