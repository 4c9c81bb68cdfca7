use Rattle.std.proofs.Common.{◌≡◌}
use Rattle.reply_cache.specs.Steps.{Leads}
use Rattle.solve_serve.specs.Requests.{IsPlace}
use Rattle.solve_serve.specs.Answers.{tally, answering}
use Rattle.solve_serve.specs.Session.{outside}
use Rattle.solve_serve.proofs.SessionLaws.{SoFar}
use Rattle.solve_serve.proofs.session.serve_one.Given as goal

abbrev pub invariant-loop-served : goal.invariant-loop-served
invariant-loop-served g l =
    SoFar g.M.Maker.is_reply (λ steps. Leads g.M.Maker.does steps l.fn.maker l.maker)
    (outside (g.S.Source.left l.fn.source) (g.S.Source.faults l.fn.source) (answering (g.K.Sink.held l.fn.sink) (g.K.Sink.faults l.fn.sink) (tally l.fn.share.looks.amount l.fn.share.misses.amount (g.M.Maker.calls l.fn.maker))))
    l.reader
    (outside (g.S.Source.left l.source) (g.S.Source.faults l.source) (answering (g.K.Sink.held l.sink) (g.K.Sink.faults l.sink) (tally l.share.looks.amount l.share.misses.amount (g.M.Maker.calls l.maker))))
    l.served
    × IsPlace l.place l.reader × (l.share.looks.parts ≡ l.fn.share.looks.parts) × (l.share.misses.parts ≡ l.fn.share.misses.parts)
