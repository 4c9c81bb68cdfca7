use Rattle.std.proofs.Common.{◌≤◌, ◌-◌, length}
use Rattle.util_project.proofs.LaneLeasts.{AreLeastLanes}
use Rattle.util_project.proofs.leasts.least_of_blocks.Given as goal

abbrev pub invariant-loop-at : goal.invariant-loop-at
invariant-loop-at l = record {
  inside : l.at ≤ length l.cells;
  so_far : AreLeastLanes l.cells l.lanes l.at;
}

abbrev pub decreases-loop-at : goal.decreases-loop-at
decreases-loop-at l = length l.cells - l.at
