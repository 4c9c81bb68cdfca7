use Rattle.std.proofs.Common.{◌+◌, arith}
use Rattle.agent_workers.specs.Turns.{sprint_limit, SomeFailed}
use Rattle.agent_workers.specs.Broken.{HasGoneOn, AreCutShort}
use Rattle.agent_workers.proofs.BreakLaws.{err_on, sprint_left}
use Rattle.agent_workers.proofs.PlayLaws.{sprint_none, sprint_more, played_by, all_ready, each_ready_then}
use Rattle.agent_workers.proofs.TurnLaws.{no_turns, one_turn_more, still_part, spent_part, later}
use Rattle.agent_workers.proofs.play.play_part.Goals as goal

pub loop-turn-init : goal.loop-turn-init
loop-turn-init g c = (sprint_none (λ b. (goal.Machine-dyn g (b.vtable, b.value)).meaning b.value) c.args.cells.now c.requires.ready, no_turns (λ b. (goal.Machine-dyn g (b.vtable, b.value)).meaning b.value) c.args.alone _ c.args.cells.now)

pub take_turn-requires-clause-ready : goal.take_turn-requires-clause-ready
take_turn-requires-clause-ready g c κs within = all_ready (λ b. (goal.Machine-dyn g (b.vtable, b.value)).meaning b.value) c.args.cells.now c.loop-turn.cells c.loop-turn.invariant.0.ready

pub take_turn-requires-clause-known : goal.take_turn-requires-clause-known
take_turn-requires-clause-known g c κs within = λ few. c.loop-turn.invariant.1.known (later c.loop-turn.turn c.goes_to_all-all.result c.goes_to_all-all.ensures.first few)

pub returns-in_err-more-clause-ready : goal.returns-in_err-more-clause-ready
returns-in_err-more-clause-ready g c = each_ready_then (λ b. (goal.Machine-dyn g (b.vtable, b.value)).meaning b.value) c.args.cells.now c.loop-turn.cells c.take_turn.new.cells c.loop-turn.invariant.0.ready c.take_turn.ensures.ready

pub returns-then-more-eq0-clause-ready : goal.returns-then-more-eq0-clause-ready
returns-then-more-eq0-clause-ready g c = each_ready_then (λ b. (goal.Machine-dyn g (b.vtable, b.value)).meaning b.value) c.args.cells.now c.loop-turn.cells c.take_turn.new.cells c.loop-turn.invariant.0.ready c.take_turn.ensures.ready

pub returns-then-more-eq0-clause-ok : goal.returns-then-more-eq0-clause-ok
returns-then-more-eq0-clause-ok g c = let t = c.loop-turn-test.true in
    played_by (λ b. (goal.Machine-dyn g (b.vtable, b.value)).meaning b.value) (c.loop-turn.turn + 1) (c.loop-turn.taken + c.in_ok-more.more) c.args.cells.now c.take_turn.new.cells (omega arith) (omega (arith, t))
    (sprint_more (λ b. (goal.Machine-dyn g (b.vtable, b.value)).meaning b.value) c.goes_to_all-all.result c.loop-turn.turn c.loop-turn.taken c.in_ok-more.more c.args.cells.now c.loop-turn.cells c.take_turn.new.cells c.goes_to_all-all.ensures.first c.loop-turn.invariant.0 c.in_ok-more.ensures.ok)

pub loop-turn-preserved : goal.loop-turn-preserved
loop-turn-preserved g c = (
  sprint_more (λ b. (goal.Machine-dyn g (b.vtable, b.value)).meaning b.value) c.goes_to_all-all.result c.loop-turn.turn c.loop-turn.taken c.in_ok-more.more c.args.cells.now c.loop-turn.cells c.take_turn.new.cells c.goes_to_all-all.ensures.first c.loop-turn.invariant.0 c.in_ok-more.ensures.ok,
  one_turn_more (λ b. (goal.Machine-dyn g (b.vtable, b.value)).meaning b.value) c.goes_to_all-all.result c.args.alone c.loop-turn.turn c.loop-turn.watch.waits c.take_turn.new.watch.waits c.args.cells.now c.loop-turn.cells c.take_turn.new.cells c.goes_to_all-all.ensures.due
      c.in_ok-more.ensures.ok.ready.size c.in_ok-more.ensures.turn c.in_ok-more.ensures.marks c.in_ok-more.ensures.known (let some = c.if-more-eq0.false in let counted = c.in_ok-more.ensures.ok.counted in omega (arith, some, counted)) c.loop-turn.invariant.1,
)

pub returns-then-more-eq0-clause-turns : goal.returns-then-more-eq0-clause-turns
returns-then-more-eq0-clause-turns g c =
    still_part (λ b. (goal.Machine-dyn g (b.vtable, b.value)).meaning b.value) c.goes_to_all-all.result c.args.alone c.loop-turn.turn c.loop-turn.watch.waits c.args.cells.now c.loop-turn.cells c.take_turn.new.cells c.goes_to_all-all.ensures.due c.in_ok-more.ensures.ok.ready.size c.in_ok-more.ensures.turn c.loop-turn-test.true
    (let none = c.if-more-eq0.true in let counted = c.in_ok-more.ensures.ok.counted in omega (arith, none, counted)) c.loop-turn.invariant.1

pub returns-clause-turns : goal.returns-clause-turns
returns-clause-turns g c = spent_part (λ b. (goal.Machine-dyn g (b.vtable, b.value)).meaning b.value) c.args.alone c.loop-turn.turn c.loop-turn.watch.waits c.args.cells.now c.loop-turn.cells (let t = c.loop-turn-test.false in omega (arith, t)) c.loop-turn.invariant.1

pub returns-clause-ok : goal.returns-clause-ok
returns-clause-ok g c = let t = c.loop-turn-test.false in
    played_by (λ b. (goal.Machine-dyn g (b.vtable, b.value)).meaning b.value) c.loop-turn.turn c.loop-turn.taken c.args.cells.now c.loop-turn.cells (omega (arith, t)) (omega (arith, t)) c.loop-turn.invariant.0

pub returns-in_err-more-clause-left : goal.returns-in_err-more-clause-left
returns-in_err-more-clause-left g c =
    err_on c.from_residual.result _ (λ f. AreCutShort (λ b. (goal.Machine-dyn g (b.vtable, b.value)).meaning b.value) f HasGoneOn sprint_limit 1 c.args.cells.now c.take_turn.new.cells) c.from_residual.ensures.1
    (sprint_left (λ b. (goal.Machine-dyn g (b.vtable, b.value)).meaning b.value) c.loop-turn.turn c.loop-turn.taken _ c.args.cells.now c.loop-turn.cells c.take_turn.new.cells c.loop-turn-test.true c.loop-turn.invariant.0 c.in_err-more.ensures.left)

pub returns-in_err-more-clause-err : goal.returns-in_err-more-clause-err
returns-in_err-more-clause-err g c = err_on c.from_residual.result _ (λ f. SomeFailed f c.take_turn.new.cells) c.from_residual.ensures.1 c.in_err-more.ensures.err
