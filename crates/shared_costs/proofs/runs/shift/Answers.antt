use Rattle.std.proofs.Common.{ℕ, ◌+◌, ◌*◌, ◌≤◌, length, refl}
use Rattle.std.proofs.Common.{get_or, sym, subst}
use Rattle.shared_costs.specs.Runs.{IsShiftedRun}
use Rattle.shared_costs.proofs.RunLaws.{shifted-more, run-next, run-room, run-low}
use Rattle.shared_costs.proofs.runs.shift.Goals as goal

pub shift_run-requires-clause-low : goal.shift_run-requires-clause-low
shift_run-requires-clause-low c =
    let size = length c.args.lows.now in
    let inner = c.args.inner in
    let b = c.loop-block.block in
    let a = c.loop-number.number in
    let start = (b * size + a) * inner in
    let room : start + inner ≤ length c.args.cells.now = run-room b c.args.blocks size a inner _ c.loop-block-test.true c.loop-number-test.true c.requires.full in
    λ k from to. run-low inner c.args.lows.now c.args.gains.now c.args.cells.now c.loop-number.cells b a start k c.loop-number-test.true refl room c.requires.lows c.loop-number.invariant from to

pub loop-number-preserved : goal.loop-number-preserved
loop-number-preserved c =
    let size = length c.args.lows.now in
    let inner = c.args.inner in
    let b = c.loop-block.block in
    let a = c.loop-number.number in
    let start = (b * size + a) * inner in
    let more = (b * size + (a + 1)) * inner in
    let run = subst (λ (n : ℕ). IsShiftedRun start n (get_or c.args.lows.now a 0) (get_or c.args.gains.now a 0) c.loop-number.cells c.shift_run.new.cells) (sym (run-next b size a inner)) c.shift_run.ensures in
    shifted-more inner c.args.lows.now c.args.gains.now b a start more c.args.cells.now c.loop-number.cells c.shift_run.new.cells c.loop-number-test.true refl (run-next b size a inner) c.loop-number.invariant run
