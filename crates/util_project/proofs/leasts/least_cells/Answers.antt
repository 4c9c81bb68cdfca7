use Rattle.std.proofs.Common.{◌≡◌, ◌≤◌, ℕ, ◌+◌, ◌-◌, ◌*◌, length, take, drop, refl, ap, ◌∙◌, arith}
use Rattle.std.proofs.Math.Nat.{mul-le-mul_right}
use Rattle.std.proofs.lemmas.Simd.{length-chunk}
use Rattle.util_project.proofs.LeastLaws.{cells-append}
use Rattle.util_project.proofs.leasts.least_cells.Goals as goal

pub loop-block-preserved : goal.loop-block-preserved
loop-block-preserved c =
    let cells = c.args.cells.now in
    let size = c.args.size in
    let b = c.loop-block.block in
    let start = b * size in
    let many : start + size - start ≡ size = omega arith in
    let more : b + 1 ≤ c.args.blocks = omega (arith, c.loop-block-test.true) in
    let room : start + size ≤ length cells = omega (arith, mul-le-mul_right size more, c.requires.full) in
    cells-append cells b size start c.loop-block.kept.items _ (take (start + size - start) (drop start cells)) _ c.loop-block.invariant refl
    (ap (λ (n : ℕ). take n (drop start cells)) many) (length-chunk start (start + size - start) cells (omega (arith, room)) ∙ many) c.least_of.ensures c.in_ok-push.ensures.items
