use Rattle.std.proofs.Common.{◌≡◌, ◌∙◌, ℕ, refl, sym, ap, subst, arith}
use Rattle.wire_frames.specs.Reader.{Reader}
use Rattle.reply_cache.specs.Steps.{Leads}
use Rattle.solve_serve.specs.Limits.{session_limit}
use Rattle.solve_serve.specs.Answers.{tally, answering}
use Rattle.solve_serve.specs.Session.{outside}
use Rattle.solve_serve.proofs.SessionLaws.{SoFar, so_far_none, so_far_more, so_far_end, so_far_limit, so_far_calls}
use Rattle.solve_serve.proofs.session.serve_one.Goals as goal

pub loop-served-init : goal.loop-served-init
loop-served-init g c =
    let before = outside (g.S.Source.left c.args.source.now) (g.S.Source.faults c.args.source.now) (answering (g.K.Sink.held c.args.sink.now) (g.K.Sink.faults c.args.sink.now) (tally c.args.share.now.looks.amount c.args.share.now.misses.amount (g.M.Maker.calls c.args.maker.now))) in
    let began = subst (λ (r : Reader). SoFar g.M.Maker.is_reply (λ steps. Leads g.M.Maker.does steps c.args.maker.now c.args.maker.now) before r before 0) (sym c.with_limit-reader.ensures) (so_far_none g.M.Maker.does g.M.Maker.is_reply c.args.maker.now before) in
    (began, ap (λ (r : Reader). r.stuck) c.with_limit-reader.ensures, refl, refl)

pub turn-requires-clause-calls : goal.turn-requires-clause-calls
turn-requires-clause-calls g c κs within =
    let before = outside (g.S.Source.left c.args.source.now) (g.S.Source.faults c.args.source.now) (answering (g.K.Sink.held c.args.sink.now) (g.K.Sink.faults c.args.sink.now) (tally c.args.share.now.looks.amount c.args.share.now.misses.amount (g.M.Maker.calls c.args.maker.now))) in
    let now = outside (g.S.Source.left c.loop-served.source) (g.S.Source.faults c.loop-served.source) (answering (g.K.Sink.held c.loop-served.sink) (g.K.Sink.faults c.loop-served.sink) (tally c.loop-served.share.looks.amount c.loop-served.share.misses.amount (g.M.Maker.calls c.loop-served.maker))) in
    let few = so_far_calls g.M.Maker.is_reply (λ steps. Leads g.M.Maker.does steps c.args.maker.now c.loop-served.maker) before c.loop-served.reader now c.loop-served.served c.loop-served.invariant.0 in
    omega (arith, few, c.requires.calls, c.loop-served-test.true)

pub returns-in-Err-clause-served : goal.returns-in-Err-clause-served
returns-in-Err-clause-served g c =
    let before = outside (g.S.Source.left c.args.source.now) (g.S.Source.faults c.args.source.now) (answering (g.K.Sink.held c.args.sink.now) (g.K.Sink.faults c.args.sink.now) (tally c.args.share.now.looks.amount c.args.share.now.misses.amount (g.M.Maker.calls c.args.maker.now))) in
    let now = outside (g.S.Source.left c.loop-served.source) (g.S.Source.faults c.loop-served.source) (answering (g.K.Sink.held c.loop-served.sink) (g.K.Sink.faults c.loop-served.sink) (tally c.loop-served.share.looks.amount c.loop-served.share.misses.amount (g.M.Maker.calls c.loop-served.maker))) in
    let after = outside (g.S.Source.left c.turn.new.source) (g.S.Source.faults c.turn.new.source) (answering (g.K.Sink.held c.turn.new.sink) (g.K.Sink.faults c.turn.new.sink) (tally c.turn.new.share.looks.amount c.turn.new.share.misses.amount (g.M.Maker.calls c.turn.new.maker))) in
    rw c.end.ensures (so_far_end g.M.Maker.does g.M.Maker.is_reply c.args.maker.now c.loop-served.maker c.turn.new.maker c.in-Err.stop before c.loop-served.reader now c.loop-served.served c.turn.new.reader after c.loop-served-test.true c.loop-served.invariant.0 c.in-Err.ensures.turn)

pub loop-served-preserved : goal.loop-served-preserved
loop-served-preserved g c =
    let before = outside (g.S.Source.left c.args.source.now) (g.S.Source.faults c.args.source.now) (answering (g.K.Sink.held c.args.sink.now) (g.K.Sink.faults c.args.sink.now) (tally c.args.share.now.looks.amount c.args.share.now.misses.amount (g.M.Maker.calls c.args.maker.now))) in
    let now = outside (g.S.Source.left c.loop-served.source) (g.S.Source.faults c.loop-served.source) (answering (g.K.Sink.held c.loop-served.sink) (g.K.Sink.faults c.loop-served.sink) (tally c.loop-served.share.looks.amount c.loop-served.share.misses.amount (g.M.Maker.calls c.loop-served.maker))) in
    let after = outside (g.S.Source.left c.turn.new.source) (g.S.Source.faults c.turn.new.source) (answering (g.K.Sink.held c.turn.new.sink) (g.K.Sink.faults c.turn.new.sink) (tally c.turn.new.share.looks.amount c.turn.new.share.misses.amount (g.M.Maker.calls c.turn.new.maker))) in (
      so_far_more g.M.Maker.does g.M.Maker.is_reply c.args.maker.now c.loop-served.maker c.turn.new.maker before c.loop-served.reader now c.loop-served.served c.turn.new.reader after c.loop-served.invariant.0 c.in-Ok.ensures.turn,
      c.in-Ok.ensures.place,
      c.turn.ensures.parts.0 ∙ c.loop-served.invariant.2,
      c.turn.ensures.parts.1 ∙ c.loop-served.invariant.3,
    )

pub returns-clause-served : goal.returns-clause-served
returns-clause-served g c =
    let before = outside (g.S.Source.left c.args.source.now) (g.S.Source.faults c.args.source.now) (answering (g.K.Sink.held c.args.sink.now) (g.K.Sink.faults c.args.sink.now) (tally c.args.share.now.looks.amount c.args.share.now.misses.amount (g.M.Maker.calls c.args.maker.now))) in
    let now = outside (g.S.Source.left c.loop-served.source) (g.S.Source.faults c.loop-served.source) (answering (g.K.Sink.held c.loop-served.sink) (g.K.Sink.faults c.loop-served.sink) (tally c.loop-served.share.looks.amount c.loop-served.share.misses.amount (g.M.Maker.calls c.loop-served.maker))) in
    let last : c.loop-served.served ≡ session_limit = omega (arith, c.loop-served-test.false, c.loop-served.auto.served-end) in
    so_far_limit g.M.Maker.does g.M.Maker.is_reply c.args.maker.now c.loop-served.maker before c.loop-served.reader now (subst (λ (n : ℕ). SoFar g.M.Maker.is_reply (λ steps. Leads g.M.Maker.does steps c.args.maker.now c.loop-served.maker) before c.loop-served.reader now n) last c.loop-served.invariant.0)
