use Rattle.std.proofs.Common.{ap, map, string_bytes}
use Rattle.serve_top.specs.Serving.{listening, sinking}
use Rattle.serve_top.proofs.ServeLaws.{write_so, refused_so, link_so, sink_failed, complete}
use Rattle.serve_top.proofs.serving.serve_all.Goals as goal

pub returns-clause-refused : goal.returns-clause-refused
returns-clause-refused g c =
    let words = map string_bytes c.args.words.now in
    let l = listening (g.L.Listener.faults c.args.listener.now) (g.L.Listener.waiting c.args.listener.now) (g.L.Listener.closed c.args.listener.now) in
    let l' = listening (g.L.Listener.faults c.answer_all.new.listener) (g.L.Listener.waiting c.answer_all.new.listener) (g.L.Listener.closed c.answer_all.new.listener) in
    let sink = sinking (g.K.Sink.held c.args.sink.now) (g.K.Sink.finished c.args.sink.now) (g.K.Sink.faults c.args.sink.now) in
    let sink' = sinking (g.K.Sink.held c.answer_all.new.sink) (g.K.Sink.finished c.answer_all.new.sink) (g.K.Sink.faults c.answer_all.new.sink) in
    let h = c.answer_all.ensures.answered in
    λ e. refused_so g.L.S.Source.left g.L.S.Source.faults g.L.K.Sink.held g.L.K.Sink.faults g.M.Maker.is_reply words l l' sink sink' c.answer_all.result (h (λ n. let f = n in cc)) e

pub returns-clause-link_fault : goal.returns-clause-link_fault
returns-clause-link_fault g c =
    let words = map string_bytes c.args.words.now in
    let l = listening (g.L.Listener.faults c.args.listener.now) (g.L.Listener.waiting c.args.listener.now) (g.L.Listener.closed c.args.listener.now) in
    let l' = listening (g.L.Listener.faults c.answer_all.new.listener) (g.L.Listener.waiting c.answer_all.new.listener) (g.L.Listener.closed c.answer_all.new.listener) in
    let sink = sinking (g.K.Sink.held c.args.sink.now) (g.K.Sink.finished c.args.sink.now) (g.K.Sink.faults c.args.sink.now) in
    let sink' = sinking (g.K.Sink.held c.answer_all.new.sink) (g.K.Sink.finished c.answer_all.new.sink) (g.K.Sink.faults c.answer_all.new.sink) in
    let h = c.answer_all.ensures.answered in
    λ e. link_so g.L.S.Source.left g.L.S.Source.faults g.L.K.Sink.held g.L.K.Sink.faults g.M.Maker.is_reply words l l' sink sink' c.answer_all.result (h (λ n. let f = n in cc)) e

pub returns-clause-write_fault : goal.returns-clause-write_fault
returns-clause-write_fault g c =
    let words = map string_bytes c.args.words.now in
    let l = listening (g.L.Listener.faults c.args.listener.now) (g.L.Listener.waiting c.args.listener.now) (g.L.Listener.closed c.args.listener.now) in
    let l' = listening (g.L.Listener.faults c.answer_all.new.listener) (g.L.Listener.waiting c.answer_all.new.listener) (g.L.Listener.closed c.answer_all.new.listener) in
    let sink = sinking (g.K.Sink.held c.args.sink.now) (g.K.Sink.finished c.args.sink.now) (g.K.Sink.faults c.args.sink.now) in
    let sink' = sinking (g.K.Sink.held c.answer_all.new.sink) (g.K.Sink.finished c.answer_all.new.sink) (g.K.Sink.faults c.answer_all.new.sink) in
    let h = c.answer_all.ensures.answered in
    λ e. let some = h (λ n. let f = n in cc) in write_so some.0 sink sink' c.answer_all.result some.2 e

pub returns-clause-sink_failed : goal.returns-clause-sink_failed
returns-clause-sink_failed g c =
    let words = map string_bytes c.args.words.now in
    let l = listening (g.L.Listener.faults c.args.listener.now) (g.L.Listener.waiting c.args.listener.now) (g.L.Listener.closed c.args.listener.now) in
    let l' = listening (g.L.Listener.faults c.answer_all.new.listener) (g.L.Listener.waiting c.answer_all.new.listener) (g.L.Listener.closed c.answer_all.new.listener) in
    let sink = sinking (g.K.Sink.held c.args.sink.now) (g.K.Sink.finished c.args.sink.now) (g.K.Sink.faults c.args.sink.now) in
    let sink' = sinking (g.K.Sink.held c.answer_all.new.sink) (g.K.Sink.finished c.answer_all.new.sink) (g.K.Sink.faults c.answer_all.new.sink) in
    let h = c.answer_all.ensures.answered in
    sink_failed g.L.S.Source.left g.L.S.Source.faults g.L.K.Sink.held g.L.K.Sink.faults g.M.Maker.is_reply words l l' sink sink' c.answer_all.result h (λ n. ap (λ s. g.K.Sink.faults s) (c.answer_all.ensures.unwritten n))

pub returns-clause-complete : goal.returns-clause-complete
returns-clause-complete g c =
    let words = map string_bytes c.args.words.now in
    let l = listening (g.L.Listener.faults c.args.listener.now) (g.L.Listener.waiting c.args.listener.now) (g.L.Listener.closed c.args.listener.now) in
    let l' = listening (g.L.Listener.faults c.answer_all.new.listener) (g.L.Listener.waiting c.answer_all.new.listener) (g.L.Listener.closed c.answer_all.new.listener) in
    let sink = sinking (g.K.Sink.held c.args.sink.now) (g.K.Sink.finished c.args.sink.now) (g.K.Sink.faults c.args.sink.now) in
    let sink' = sinking (g.K.Sink.held c.answer_all.new.sink) (g.K.Sink.finished c.answer_all.new.sink) (g.K.Sink.faults c.answer_all.new.sink) in
    let h = c.answer_all.ensures.answered in
    λ accepted quiet still. complete g.L.S.Source.left g.L.S.Source.faults g.L.K.Sink.held g.L.K.Sink.faults g.M.Maker.is_reply words l l' sink sink' c.answer_all.result h accepted quiet still
