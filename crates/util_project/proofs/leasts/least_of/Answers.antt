use Rattle.std.proofs.Common.{get_or, arith}
use Rattle.util_project.proofs.LeastLaws.{least-more}
use Rattle.util_project.proofs.leasts.least_of.Goals as goal

pub loop-at-preserved : goal.loop-at-preserved
loop-at-preserved c = record {
  inside = omega arith;
  so_far = least-more (λ d. get_or c.args.cells.now d 0) c.loop-at.at c.loop-at.least _ c.loop-at.invariant.so_far c.min-least.ensures;
}
