use Rattle.std.proofs.Common.{◌≡◌, ℕ, ◌+◌, ◌*◌, ◌≤◌, ◌<◌, length, get_or, set, refl, subst₂, arith}
use Rattle.shared_costs.specs.Runs.{IsShiftedRun}
use Rattle.shared_costs.proofs.RunLaws.{shifted-more, run-next, run-room, run-low, one-run}
use Rattle.shared_costs.proofs.runs.shift_by_cells.Goals as goal

pub overflow_sub-cells : goal.overflow_sub-cells
overflow_sub-cells c =
    let size = length c.args.lows.now in
    let b = c.loop-block.block in
    let a = c.loop-number.number in
    let k = b * size + a in
    let start = k * 1 in
    let full : length c.args.cells.now ≡ c.args.blocks * (size * 1) = omega (arith, c.requires.full) in
    let room : start + 1 ≤ length c.args.cells.now = run-room b c.args.blocks size a 1 _ c.loop-block-test.true c.loop-number-test.true full in
    run-low 1 c.args.lows.now c.args.gains.now c.args.cells.now c.loop-number.cells b a start k c.loop-number-test.true refl room c.requires.lows c.loop-number.invariant (omega arith) (omega arith)

pub loop-number-preserved : goal.loop-number-preserved
loop-number-preserved c =
    let size = length c.args.lows.now in
    let lows = c.args.lows.now in
    let gains = c.args.gains.now in
    let b = c.loop-block.block in
    let a = c.loop-number.number in
    let k = b * size + a in
    let now = c.loop-number.cells in
    let full : length c.args.cells.now ≡ c.args.blocks * (size * 1) = omega (arith, c.requires.full) in
    let room : k * 1 + 1 ≤ length c.args.cells.now = run-room b c.args.blocks size a 1 _ c.loop-block-test.true c.loop-number-test.true full in
    let inside : k < length now = omega (arith, room, c.loop-number.invariant.count) in
    let one = one-run k (get_or lows a 0) (get_or gains a 0) c.min.result now c.loop-number.invariant.small inside (omega (arith, c.min.ensures)) in
    let start : k ≡ k * 1 = omega arith in
    let end : k + 1 ≡ (b * size + (a + 1)) * 1 = omega arith in
    let run = subst₂ (λ (m n : ℕ). IsShiftedRun m n (get_or lows a 0) (get_or gains a 0) now (set now k c.min.result)) start end one in
    shifted-more 1 lows gains b a (k * 1) ((b * size + (a + 1)) * 1) c.args.cells.now now (set now k c.min.result) c.loop-number-test.true refl (run-next b size a 1) c.loop-number.invariant run
