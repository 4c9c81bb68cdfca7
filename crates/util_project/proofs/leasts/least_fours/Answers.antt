use Rattle.std.proofs.Common.{◌≡◌, ℕ, ◌*◌, length, get_or, refl, sym, subst, arith}
use Rattle.std.proofs.lemmas.Simd.{length-chunk}
use lib.Lanes.{chunk}
use Rattle.util_project.specs.Projection.{IsLeast}
use Rattle.util_project.specs.Leasts.{AreLeastRuns}
use Rattle.util_project.proofs.LeastLaws.{cells-append}
use Rattle.util_project.proofs.leasts.least_fours.Goals as goal

pub loop-block-preserved : goal.loop-block-preserved
loop-block-preserved c =
    let cells = c.args.cells.now in
    let b = c.loop-block.block in
    let start = b * 4 in
    let block = chunk start 4 cells in
    let long : length block ≡ 4 = length-chunk start 4 cells (omega (arith, c.requires, c.loop-block-test.true)) in
    let least = subst (λ (n : ℕ). IsLeast (λ d. get_or block d 0) n c.least_of_four.result) (sym long) c.least_of_four.ensures in
    cells-append cells b 4 start c.loop-block.kept.items _ block c.least_of_four.result c.loop-block.invariant refl refl long least c.in_ok-push.ensures.items

pub returns : goal.returns
returns c =
    let all : c.loop-block.block ≡ c.args.blocks = omega (arith, c.loop-block.auto.block-end, c.loop-block-test.false) in
    subst (λ (n : ℕ). AreLeastRuns c.args.cells.now n 4 1 c.loop-block.kept.items) all c.loop-block.invariant
