use Rattle.std.proofs.Common.{◌≡◌, ℕ, ◌+◌, ◌-◌, ◌*◌, take, drop, refl, ap, subst, arith}
use Rattle.util_project.specs.Leasts.{AreLeastRuns}
use Rattle.util_project.proofs.LeastLaws.{runs-append}
use Rattle.util_project.proofs.leasts.least_runs.Goals as goal

pub loop-block-preserved : goal.loop-block-preserved
loop-block-preserved c =
    let cells = c.args.cells.now in
    let size = c.args.size in
    let inner = c.args.inner in
    let b = c.loop-block.block in
    let start = b * (size * inner) in
    let long : start + size * inner - start ≡ size * inner = omega arith in
    runs-append cells b size inner start c.loop-block.kept.items _ (take (start + size * inner - start) (drop start cells)) c.loop-block.invariant refl
    (ap (λ (n : ℕ). take n (drop start cells)) long) c.in_ok-append_leasts.ensures

pub returns : goal.returns
returns c =
    let all : c.loop-block.block ≡ c.args.blocks = omega (arith, c.loop-block.auto.block-end, c.loop-block-test.false) in
    subst (λ (n : ℕ). AreLeastRuns c.args.cells.now n c.args.size c.args.inner c.loop-block.kept.items) all c.loop-block.invariant
