use Rattle.std.proofs.Common.{length, ◌-◌, ◌≡◌, ◌≤◌, take}
use Rattle.util_kernel.specs.Lanes.{plus}
use Rattle.util_kernel.proofs.LaneLaws.{combined}
use Rattle.util_kernel.proofs.CapLaws.{total, IsGathered}
use Rattle.util_kernel.proofs.add.add_lanes.Given as goal

abbrev pub invariant-loop-at : goal.invariant-loop-at
invariant-loop-at l = record {
  inside : l.at ≤ length l.initial.into;
  so_far : l.into ≡ combined total l.at l.initial.into l.from;
  gathered : IsGathered l.bits (take l.at l.into);
}

abbrev pub decreases-loop-at : goal.decreases-loop-at
decreases-loop-at l = length l.initial.into - l.at

abbrev pub invariant-loop-at-2 : goal.invariant-loop-at-2
invariant-loop-at-2 l = record {
  inside : l.at ≤ length l.fn.into;
  so_far : l.into ≡ combined plus l.at l.fn.into l.from;
}

abbrev pub decreases-loop-at-2 : goal.decreases-loop-at-2
decreases-loop-at-2 l = length l.initial.into - l.at
