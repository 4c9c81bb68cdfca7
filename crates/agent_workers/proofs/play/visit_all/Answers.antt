use Rattle.std.proofs.Common.{true, ◌+◌, inl, inr, refl, set, arith}
use Rattle.agent_workers.specs.Turns.{visit_limit}
use Rattle.agent_workers.specs.Broken.{HasGoneOn, AreCutShort}
use Rattle.agent_workers.proofs.BreakLaws.{err_on, turn_left}
use Rattle.agent_workers.proofs.PlayLaws.{turn_none, turn_more, turn_ready, ready_at, failed_set, failed_on}
use Rattle.agent_workers.proofs.TurnLaws.{waiting_none, waiting_more, waiting_past, knowing_set, passing_none, passing_more, passing_all}
use Rattle.agent_workers.proofs.play.visit_all.Goals as goal

pub loop-place-init : goal.loop-place-init
loop-place-init g c = (turn_none (λ b. (goal.Machine-dyn g (b.vtable, b.value)).meaning b.value) true c.args.cells.now c.requires.ready, waiting_none (λ b. (goal.Machine-dyn g (b.vtable, b.value)).meaning b.value) c.args.watch.now.waits c.args.cells.now, passing_none (λ b. (goal.Machine-dyn g (b.vtable, b.value)).meaning b.value) true c.args.settled c.args.watch.now.waits c.args.cells.now, λ i d at lt un. absurd (omega (arith, lt)))

pub visit_once-requires-clause-ready : goal.visit_once-requires-clause-ready
visit_once-requires-clause-ready g c κs within =
    ready_at (λ b. (goal.Machine-dyn g (b.vtable, b.value)).meaning b.value) c.args.cells.now c.loop-place.cells c.loop-place.place c.index-cells-place.result c.loop-place.invariant.0.ready (let test = c.loop-place-test.true in let size = c.loop-place.invariant.0.ready.size in omega (arith, test, size))

pub returns-in_err-taken-clause-ready : goal.returns-in_err-taken-clause-ready
returns-in_err-taken-clause-ready g c =
    turn_ready (λ b. (goal.Machine-dyn g (b.vtable, b.value)).meaning b.value) c.args.cells.now c.loop-place.cells c.loop-place.place c.index-cells-place.result c.visit_once.new.cell c.loop-place.invariant.0.ready (let test = c.loop-place-test.true in let size = c.loop-place.invariant.0.ready.size in omega (arith, test, size)) c.visit_once.ensures.ready

pub returns-in_err-taken-clause-err : goal.returns-in_err-taken-clause-err
returns-in_err-taken-clause-err g c =
    failed_on (λ b. (goal.Machine-dyn g (b.vtable, b.value)).meaning b.value) c.from_residual.result _ _ c.from_residual.ensures.1
    (failed_set (λ b. (goal.Machine-dyn g (b.vtable, b.value)).meaning b.value) _ c.loop-place.cells c.loop-place.place c.visit_once.new.cell (let test = c.loop-place-test.true in let size = c.loop-place.invariant.0.ready.size in omega (arith, test, size)) c.in_err-taken.ensures.err)

pub loop-place-preserved : goal.loop-place-preserved
loop-place-preserved g c = (
  turn_more (λ b. (goal.Machine-dyn g (b.vtable, b.value)).meaning b.value) true c.loop-place.place c.loop-place.taken c.in_ok-taken.field-0 c.args.cells.now c.loop-place.cells c.index-cells-place.result c.visit_once.new.cell c.loop-place.invariant.0 (let test = c.loop-place-test.true in let size = c.loop-place.invariant.0.ready.size in omega (arith, test, size))
      c.visit_once.ensures.ready (inl c.in_ok-taken.ensures.ok),
  waiting_more (λ b. (goal.Machine-dyn g (b.vtable, b.value)).meaning b.value) c.loop-place.watch.waits c.visit_once.new.watch.waits c.loop-place.place c.loop-place.place c.args.cells.now c.loop-place.cells c.index-cells-place.result c.visit_once.new.cell (omega arith) (let test = c.loop-place-test.true in let size = c.loop-place.invariant.0.ready.size in omega (arith, test, size))
      (let size = c.loop-place.invariant.0.ready.size in let few = c.requires.few in omega (arith, size, few)) c.loop-place.invariant.0.ready.size c.loop-place.invariant.0.rest c.loop-place.invariant.1 c.in_ok-taken.ensures.marks,
  passing_more (λ b. (goal.Machine-dyn g (b.vtable, b.value)).meaning b.value) true c.args.settled c.args.watch.now.waits c.loop-place.watch.waits c.visit_once.new.watch.waits c.loop-place.place c.args.cells.now c.loop-place.cells c.index-cells-place.result c.visit_once.new.cell (let test = c.loop-place-test.true in let size = c.loop-place.invariant.0.ready.size in omega (arith, test, size))
      (let size = c.loop-place.invariant.0.ready.size in let few = c.requires.few in omega (arith, size, few)) c.loop-place.invariant.0.ready.size c.loop-place.invariant.0.rest c.in_ok-taken.ensures.marks (inr (refl, c.in_ok-taken.ensures.turn)) c.loop-place.invariant.2,
  knowing_set (λ b. (goal.Machine-dyn g (b.vtable, b.value)).meaning b.value) c.loop-place.watch.waits c.visit_once.new.watch.waits c.loop-place.place c.loop-place.place (c.loop-place.place + 1) c.loop-place.cells c.visit_once.new.cell (let test = c.loop-place-test.true in let size = c.loop-place.invariant.0.ready.size in omega (arith, test, size))
      (λ i lt other. omega (arith, lt, other)) c.in_ok-taken.ensures.marks.kept c.in_ok-taken.ensures.known c.loop-place.invariant.3,
)

pub returns-clause-turn : goal.returns-clause-turn
returns-clause-turn g c = passing_all (λ b. (goal.Machine-dyn g (b.vtable, b.value)).meaning b.value) true c.args.settled c.args.watch.now.waits c.loop-place.watch.waits c.loop-place.place c.args.cells.now c.loop-place.cells (let test = c.loop-place-test.false in let size = c.loop-place.invariant.0.ready.size in omega (arith, test, size)) c.loop-place.invariant.2

pub returns-clause-marks : goal.returns-clause-marks
returns-clause-marks g c = waiting_past (λ b. (goal.Machine-dyn g (b.vtable, b.value)).meaning b.value) c.loop-place.watch.waits c.loop-place.place _ c.args.cells.now c.loop-place.cells c.loop-place.invariant.0.ready.size c.loop-place.invariant.0.rest c.loop-place.invariant.1

pub returns-in_err-taken-clause-left : goal.returns-in_err-taken-clause-left
returns-in_err-taken-clause-left g c =
    err_on c.from_residual.result _ (λ f. AreCutShort (λ b. (goal.Machine-dyn g (b.vtable, b.value)).meaning b.value) f HasGoneOn visit_limit 1 c.args.cells.now (set c.loop-place.cells c.loop-place.place c.visit_once.new.cell)) c.from_residual.ensures.1
    (turn_left (λ b. (goal.Machine-dyn g (b.vtable, b.value)).meaning b.value) true c.loop-place.place c.loop-place.taken _ c.args.cells.now c.loop-place.cells c.index-cells-place.result c.visit_once.new.cell c.loop-place.invariant.0 (let test = c.loop-place-test.true in let size = c.loop-place.invariant.0.ready.size in omega (arith, test, size)) c.in_err-taken.ensures.left c.in_err-taken.ensures.again)

pub returns-clause-known : goal.returns-clause-known
returns-clause-known g c = λ i d at lt un. c.loop-place.invariant.3 i d at (let test = c.loop-place-test.false in let size = c.loop-place.invariant.0.ready.size in omega (arith, test, size, lt)) un
