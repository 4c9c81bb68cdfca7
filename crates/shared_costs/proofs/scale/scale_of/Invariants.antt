use Rattle.std.proofs.Common.{◌≤◌, ◌*◌, ◌-◌}
use Rattle.std.specs.Int.{IsPowerOfTwo}
use Rattle.dcop_base.specs.Limits.{amount_limit}
use Rattle.shared_costs.proofs.scale.scale_of.Given as goal

abbrev pub invariant-loop-scale : goal.invariant-loop-scale
invariant-loop-scale l = record {
  power : IsPowerOfTwo l.scale;
  some : 1 ≤ l.scale;
  few : l.scale ≤ 127;
  within : l.scale * l.sum ≤ amount_limit;
}

abbrev pub decreases-loop-scale : goal.decreases-loop-scale
decreases-loop-scale l = 64 - l.scale
