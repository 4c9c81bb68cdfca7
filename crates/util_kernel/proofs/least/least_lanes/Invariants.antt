use Rattle.std.proofs.Common.{length, ◌-◌, ◌≡◌, ◌≤◌, min}
use Rattle.util_kernel.proofs.LaneLaws.{combined}
use Rattle.util_kernel.proofs.least.least_lanes.Given as goal

abbrev pub invariant-loop-into : goal.invariant-loop-into
invariant-loop-into l = record {
  inside : l.at ≤ length l.initial.into;
  so_far : l.into ≡ combined min l.at l.initial.into l.from;
}

abbrev pub decreases-loop-into : goal.decreases-loop-into
decreases-loop-into l = length l.initial.into - l.at

abbrev pub invariant-loop-at : goal.invariant-loop-at
invariant-loop-at l = record {
  inside : l.at ≤ length l.fn.into;
  so_far : l.into ≡ combined min l.at l.fn.into l.from;
}

abbrev pub decreases-loop-at : goal.decreases-loop-at
decreases-loop-at l = length l.initial.into - l.at
