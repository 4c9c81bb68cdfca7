use Rattle.std.proofs.Common.{false, length, subst, inl, set, arith}
use Rattle.agent_workers.specs.Turns.{visit_limit}
use Rattle.agent_workers.specs.Broken.{HasGoneOn, AreCutShort}
use Rattle.agent_workers.proofs.BreakLaws.{err_on, turn_left}
use Rattle.agent_workers.proofs.PlayLaws.{turn_none, turn_more, turn_past, turn_ready, ready_at, failed_set, failed_on}
use Rattle.agent_workers.specs.Watched.{AreCellsUnmarked}
use Rattle.agent_workers.proofs.TurnLaws.{waiting_none, waiting_more, waiting_past, knowing_set, passing_none, passing_past, passing_more, visited_only}
use Rattle.agent_workers.proofs.play.visit_waiting.Goals as goal

pub loop-place-init : goal.loop-place-init
loop-place-init g c = (turn_none (λ b. (goal.Machine-dyn g (b.vtable, b.value)).meaning b.value) false c.args.cells.now c.requires.ready, omega arith, waiting_none (λ b. (goal.Machine-dyn g (b.vtable, b.value)).meaning b.value) c.args.watch.now.waits c.args.cells.now, λ alone. passing_none (λ b. (goal.Machine-dyn g (b.vtable, b.value)).meaning b.value) false alone c.args.watch.now.waits c.args.cells.now, c.requires.known)

pub visit_once-requires-clause-ready : goal.visit_once-requires-clause-ready
visit_once-requires-clause-ready g c κs within =
    ready_at (λ b. (goal.Machine-dyn g (b.vtable, b.value)).meaning b.value) c.args.cells.now c.loop-place.cells c.in-Some.place c.index-cells-place.result c.loop-place.invariant.0.ready c.in-Some.ensures.within.1

pub returns-in_err-taken-clause-ready : goal.returns-in_err-taken-clause-ready
returns-in_err-taken-clause-ready g c =
    turn_ready (λ b. (goal.Machine-dyn g (b.vtable, b.value)).meaning b.value) c.args.cells.now c.loop-place.cells c.in-Some.place c.index-cells-place.result c.visit_once.new.cell c.loop-place.invariant.0.ready c.in-Some.ensures.within.1 c.visit_once.ensures.ready

pub returns-in_err-taken-clause-err : goal.returns-in_err-taken-clause-err
returns-in_err-taken-clause-err g c =
    failed_on (λ b. (goal.Machine-dyn g (b.vtable, b.value)).meaning b.value) c.from_residual.result _ _ c.from_residual.ensures.1
    (failed_set (λ b. (goal.Machine-dyn g (b.vtable, b.value)).meaning b.value) _ c.loop-place.cells c.in-Some.place c.visit_once.new.cell c.in-Some.ensures.within.1 c.in_err-taken.ensures.err)

pub loop-place-preserved : goal.loop-place-preserved
loop-place-preserved g c = (
  turn_more (λ b. (goal.Machine-dyn g (b.vtable, b.value)).meaning b.value) false c.in-Some.place c.loop-place.taken c.in_ok-taken.field-0 c.args.cells.now c.loop-place.cells c.index-cells-place.result c.visit_once.new.cell (turn_past (λ b. (goal.Machine-dyn g (b.vtable, b.value)).meaning b.value) c.loop-place.from c.in-Some.place c.loop-place.taken c.args.cells.now c.loop-place.cells c.in-Some.ensures.within.0 c.loop-place.invariant.0) c.in-Some.ensures.within.1
      c.visit_once.ensures.ready (inl c.in_ok-taken.ensures.ok),
  (let lt = c.in-Some.ensures.within.1 in let size = c.loop-place.invariant.0.ready.size in omega (arith, lt, size)),
  waiting_more (λ b. (goal.Machine-dyn g (b.vtable, b.value)).meaning b.value) c.loop-place.watch.waits c.visit_once.new.watch.waits c.loop-place.from c.in-Some.place c.args.cells.now c.loop-place.cells c.index-cells-place.result c.visit_once.new.cell c.in-Some.ensures.within.0 c.in-Some.ensures.within.1
      (let size = c.loop-place.invariant.0.ready.size in let few = c.requires.few in omega (arith, size, few)) c.loop-place.invariant.0.ready.size c.loop-place.invariant.0.rest c.loop-place.invariant.2 c.in_ok-taken.ensures.marks,
  λ alone. passing_more (λ b. (goal.Machine-dyn g (b.vtable, b.value)).meaning b.value) false alone c.args.watch.now.waits c.loop-place.watch.waits c.visit_once.new.watch.waits c.in-Some.place c.args.cells.now c.loop-place.cells c.index-cells-place.result c.visit_once.new.cell c.in-Some.ensures.within.1
      (let size = c.loop-place.invariant.0.ready.size in let few = c.requires.few in omega (arith, size, few)) c.loop-place.invariant.0.ready.size (λ j a b e f le. c.loop-place.invariant.0.rest j a b e f (let low = c.in-Some.ensures.within.0 in omega (arith, low, le))) c.in_ok-taken.ensures.marks (inl (visited_only (λ b. (goal.Machine-dyn g (b.vtable, b.value)).meaning b.value) c.loop-place.watch.waits c.in-Some.place _ _ c.in_ok-taken.ensures.turn))
      (passing_past (λ b. (goal.Machine-dyn g (b.vtable, b.value)).meaning b.value) alone c.args.watch.now.waits c.loop-place.watch.waits c.loop-place.from c.in-Some.place c.args.cells.now c.loop-place.cells c.in-Some.ensures.within.0 c.loop-place.invariant.0.ready.size c.in-Some.ensures.passed c.loop-place.invariant.0.rest (c.loop-place.invariant.3 alone)),
  knowing_set (λ b. (goal.Machine-dyn g (b.vtable, b.value)).meaning b.value) c.loop-place.watch.waits c.visit_once.new.watch.waits c.in-Some.place (length c.args.cells.now) (length c.args.cells.now) c.loop-place.cells c.visit_once.new.cell c.in-Some.ensures.within.1
      (λ i lt other. lt) c.in_ok-taken.ensures.marks.kept c.in_ok-taken.ensures.known c.loop-place.invariant.4,
)

pub returns-clause-ok : goal.returns-clause-ok
returns-clause-ok g c = let size = c.loop-place.invariant.0.ready.size in turn_past (λ b. (goal.Machine-dyn g (b.vtable, b.value)).meaning b.value) c.loop-place.from (length c.args.cells.now) c.loop-place.taken c.args.cells.now c.loop-place.cells c.loop-place.invariant.1 c.loop-place.invariant.0

pub returns-clause-turn : goal.returns-clause-turn
returns-clause-turn g c = λ alone.
    (passing_past (λ b. (goal.Machine-dyn g (b.vtable, b.value)).meaning b.value) alone c.args.watch.now.waits c.loop-place.watch.waits c.loop-place.from (length c.args.cells.now) c.args.cells.now c.loop-place.cells c.loop-place.invariant.1 c.loop-place.invariant.0.ready.size
    (subst (λ n. AreCellsUnmarked c.loop-place.watch.waits c.loop-place.from n) c.loop-place.invariant.0.ready.size c.in_default.ensures.passed) c.loop-place.invariant.0.rest (c.loop-place.invariant.3 alone)).passed

pub returns-clause-marks : goal.returns-clause-marks
returns-clause-marks g c = waiting_past (λ b. (goal.Machine-dyn g (b.vtable, b.value)).meaning b.value) c.loop-place.watch.waits c.loop-place.from (length c.args.cells.now) c.args.cells.now c.loop-place.cells c.loop-place.invariant.0.ready.size c.loop-place.invariant.0.rest c.loop-place.invariant.2

pub returns-in_err-taken-clause-left : goal.returns-in_err-taken-clause-left
returns-in_err-taken-clause-left g c =
    err_on c.from_residual.result _ (λ f. AreCutShort (λ b. (goal.Machine-dyn g (b.vtable, b.value)).meaning b.value) f HasGoneOn visit_limit 1 c.args.cells.now (set c.loop-place.cells c.in-Some.place c.visit_once.new.cell)) c.from_residual.ensures.1
    (turn_left (λ b. (goal.Machine-dyn g (b.vtable, b.value)).meaning b.value) false c.in-Some.place c.loop-place.taken _ c.args.cells.now c.loop-place.cells c.index-cells-place.result c.visit_once.new.cell (turn_past (λ b. (goal.Machine-dyn g (b.vtable, b.value)).meaning b.value) c.loop-place.from c.in-Some.place c.loop-place.taken c.args.cells.now c.loop-place.cells c.in-Some.ensures.within.0 c.loop-place.invariant.0) c.in-Some.ensures.within.1 c.in_err-taken.ensures.left c.in_err-taken.ensures.again)

pub returns-clause-known : goal.returns-clause-known
returns-clause-known g c = c.loop-place.invariant.4
