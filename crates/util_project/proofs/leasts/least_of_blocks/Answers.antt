use Rattle.std.proofs.Common.{arith}
use lib.Lanes.{chunk}
use Rattle.util_kernel.proofs.LaneLaws.{least-block}
use Rattle.util_project.proofs.LaneLeasts.{lanes-first, lanes-more, lanes-least}
use Rattle.util_project.proofs.leasts.least_of_blocks.Goals as goal

pub loop-at-init : goal.loop-at-init
loop-at-init c = record { inside = omega (arith, c.requires); so_far = lanes-first c.args.cells.now c.requires }

pub loop-at-preserved : goal.loop-at-preserved
loop-at-preserved c = record {
  inside = omega arith;
  so_far = lanes-more c.args.cells.now c.loop-at.lanes _ c.loop-at.at c.loop-at.invariant.so_far c.loop-at-test.true (least-block (chunk c.loop-at.at 4 c.args.cells.now) c.loop-at.lanes);
}

pub returns-clause-least : goal.returns-clause-least
returns-clause-least c = lanes-least c.args.cells.now c.loop-at.lanes c.loop-at.at c.least_of_four.result c.loop-at.invariant.so_far c.least_of_four.ensures
