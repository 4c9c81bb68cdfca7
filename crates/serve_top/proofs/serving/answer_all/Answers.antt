use Rattle.std.proofs.Common.{map, string_bytes, inl}
use Rattle.serve_top.specs.Serving.{listening, sinking}
use Rattle.serve_top.proofs.ServeLaws.{listener_failed}
use Rattle.serve_top.proofs.serving.answer_all.Goals as goal

pub returns-in-Ok-clause-listener_failed : goal.returns-in-Ok-clause-listener_failed
returns-in-Ok-clause-listener_failed g c =
    let words = map string_bytes c.args.words.now in
    let l = listening (g.L.Listener.faults c.args.listener.now) (g.L.Listener.waiting c.args.listener.now) (g.L.Listener.closed c.args.listener.now) in
    let l' = listening (g.L.Listener.faults c.answer_of.new.listener) (g.L.Listener.waiting c.answer_of.new.listener) (g.L.Listener.closed c.answer_of.new.listener) in
    let sink = sinking (g.K.Sink.held c.args.sink.now) (g.K.Sink.finished c.args.sink.now) (g.K.Sink.faults c.args.sink.now) in
    let sink' = sinking (g.K.Sink.held c.show.new.sink) (g.K.Sink.finished c.show.new.sink) (g.K.Sink.faults c.show.new.sink) in
    listener_failed g.L.S.Source.left g.L.S.Source.faults g.L.K.Sink.held g.L.K.Sink.faults g.M.Maker.is_reply words l l' c.in-Ok.answer sink sink' c.show.result c.in-Ok.ensures.belongs c.show.ensures.shows

pub returns-in-Err-clause-listener_failed : goal.returns-in-Err-clause-listener_failed
returns-in-Err-clause-listener_failed g c = inl c.in-Err.ensures.quiet
