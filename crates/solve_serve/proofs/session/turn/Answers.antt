use Rattle.solve_serve.specs.Answers.{tally, answering}
use Rattle.solve_serve.specs.Session.{outside}
use Rattle.solve_serve.proofs.SessionLaws.{turn_answered, turn_failed}
use Rattle.solve_serve.proofs.session.turn.Goals as goal

pub returns-clause-turn : goal.returns-clause-turn
returns-clause-turn g c =
    turn_answered g.M.Maker.does g.M.Maker.is_reply c.args.maker.now c.answer.new.maker c.in_ok-request.request c.answer.result c.args.reader.now
    (outside (g.S.Source.left c.args.source.now) (g.S.Source.faults c.args.source.now) (answering (g.K.Sink.held c.args.sink.now) (g.K.Sink.faults c.args.sink.now) (tally c.args.share.now.looks.amount c.args.share.now.misses.amount (g.M.Maker.calls c.args.maker.now))))
    c.next_request.new.reader (g.S.Source.left c.next_request.new.source) (g.S.Source.faults c.next_request.new.source)
    (answering (g.K.Sink.held c.answer.new.sink) (g.K.Sink.faults c.answer.new.sink) (tally c.answer.new.share.looks.amount c.answer.new.share.misses.amount (g.M.Maker.calls c.answer.new.maker)))
    c.in_ok-request.ensures.next.0 c.in_ok-request.ensures.next.1 c.answer.ensures.answered

pub returns-in_err-request-clause-turn : goal.returns-in_err-request-clause-turn
returns-in_err-request-clause-turn g c =
    turn_failed g.M.Maker.does g.M.Maker.is_reply c.args.maker.now c.from_residual.result c.in_err-request.field-0.0 c.args.reader.now
    (outside (g.S.Source.left c.args.source.now) (g.S.Source.faults c.args.source.now) (answering (g.K.Sink.held c.args.sink.now) (g.K.Sink.faults c.args.sink.now) (tally c.args.share.now.looks.amount c.args.share.now.misses.amount (g.M.Maker.calls c.args.maker.now))))
    c.next_request.new.reader (g.S.Source.left c.next_request.new.source) (g.S.Source.faults c.next_request.new.source)
    c.from_residual.ensures.1 c.in_err-request.ensures.next
