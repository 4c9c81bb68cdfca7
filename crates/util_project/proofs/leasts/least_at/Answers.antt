use Rattle.std.proofs.Common.{◌≡◌, ℕ, ◌+◌, ◌*◌, get_or, ap, arith}
use Rattle.util_project.proofs.LeastLaws.{least-first, least-more}
use Rattle.util_project.proofs.leasts.least_at.Goals as goal

pub loop-number-init : goal.loop-number-init
loop-number-init c =
    let block = c.args.block.now in
    let start : c.args.place ≡ 0 * c.args.inner + c.args.place = omega arith in
    least-first (λ d. get_or block (d * c.args.inner + c.args.place) 0) (get_or block c.args.place 0) (ap (λ (n : ℕ). get_or block n 0) start)

pub loop-number-preserved : goal.loop-number-preserved
loop-number-preserved c =
    least-more (λ d. get_or c.args.block.now (d * c.args.inner + c.args.place) 0) c.loop-number.number c.loop-number.least _ c.loop-number.invariant (omega arith)
