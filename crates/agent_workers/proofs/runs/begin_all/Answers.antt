use Rattle.std.proofs.Common.{arith}
use Rattle.agent_workers.proofs.BreakLaws.{left_on}
use Rattle.agent_workers.proofs.RunLaws.{start_none, sound_at, fresh_at, same_more, sound_so_far, sound_more, start_more, start_all, start_partly}
use Rattle.agent_workers.proofs.runs.begin_all.Goals as goal

pub loop-cell-init : goal.loop-cell-init
loop-cell-init g c = start_none (λ b. (goal.Machine-dyn g (b.vtable, b.value)).meaning b.value) c.args.cells.now

pub begin_once-requires-clause-sound : goal.begin_once-requires-clause-sound
begin_once-requires-clause-sound g c = let test = c.loop-cell-test.true in let size = c.loop-cell.invariant.same.size in
    sound_at (λ b. (goal.Machine-dyn g (b.vtable, b.value)).meaning b.value) c.loop-cell.cell-index c.args.cells.now c.loop-cell.cells c.cell-item.result c.loop-cell.invariant (omega (arith, test, size)) c.requires.sound

pub begin_once-requires-clause-fresh : goal.begin_once-requires-clause-fresh
begin_once-requires-clause-fresh g c = let test = c.loop-cell-test.true in let size = c.loop-cell.invariant.same.size in
    fresh_at (λ b. (goal.Machine-dyn g (b.vtable, b.value)).meaning b.value) c.loop-cell.cell-index c.args.cells.now c.loop-cell.cells c.cell-item.result c.loop-cell.invariant (omega (arith, test, size)) c.requires.fresh

pub loop-cell-preserved : goal.loop-cell-preserved
loop-cell-preserved g c = let test = c.loop-cell-test.true in let size = c.loop-cell.invariant.same.size in
    start_more (λ b. (goal.Machine-dyn g (b.vtable, b.value)).meaning b.value) c.loop-cell.cell-index c.args.cells.now c.loop-cell.cells c.cell-item.result c.begin_once.new.cell c.loop-cell.invariant (omega (arith, test, size)) c.in_ok-begin_once.ensures.started

pub returns-in_err-begin_once-clause-same : goal.returns-in_err-begin_once-clause-same
returns-in_err-begin_once-clause-same g c = let test = c.loop-cell-test.true in let size = c.loop-cell.invariant.same.size in
    same_more (λ b. (goal.Machine-dyn g (b.vtable, b.value)).meaning b.value) c.loop-cell.cell-index c.args.cells.now c.loop-cell.cells c.cell-item.result c.begin_once.new.cell c.loop-cell.invariant (omega (arith, test, size)) c.begin_once.ensures.same

pub returns-clause-started : goal.returns-clause-started
returns-clause-started g c = let test = c.loop-cell-test.false in start_all (λ b. (goal.Machine-dyn g (b.vtable, b.value)).meaning b.value) c.loop-cell.cell-index c.args.cells.now c.loop-cell.cells (omega (arith, test)) c.loop-cell.invariant

pub returns-in_err-begin_once-clause-sound : goal.returns-in_err-begin_once-clause-sound
returns-in_err-begin_once-clause-sound g c = let test = c.loop-cell-test.true in let size = c.loop-cell.invariant.same.size in
    sound_more (λ b. (goal.Machine-dyn g (b.vtable, b.value)).meaning b.value) c.loop-cell.cell-index c.args.cells.now c.loop-cell.cells c.begin_once.new.cell c.loop-cell.invariant (omega (arith, test, size)) c.requires.sound c.begin_once.ensures.sound

pub returns-clause-sound : goal.returns-clause-sound
returns-clause-sound g c = sound_so_far (λ b. (goal.Machine-dyn g (b.vtable, b.value)).meaning b.value) c.loop-cell.cell-index c.args.cells.now c.loop-cell.cells c.loop-cell.invariant c.requires.sound

pub returns-in_err-begin_once-clause-left : goal.returns-in_err-begin_once-clause-left
returns-in_err-begin_once-clause-left g c = let test = c.loop-cell-test.true in let size = c.loop-cell.invariant.same.size in
    left_on c.from_residual.result (start_partly (λ b. (goal.Machine-dyn g (b.vtable, b.value)).meaning b.value) c.loop-cell.cell-index c.args.cells.now c.loop-cell.cells c.cell-item.result c.begin_once.new.cell c.loop-cell.invariant (omega (arith, test, size)) c.in_err-begin_once.ensures.failed)
