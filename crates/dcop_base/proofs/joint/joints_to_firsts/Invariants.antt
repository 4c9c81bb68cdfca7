use Rattle.std.proofs.Common.{◌≡◌, ◌-◌}
use Rattle.dcop_base.specs.Labels.{own_joints}
use Rattle.dcop_base.proofs.joint.joints_to_firsts.Given as goal

abbrev pub invariant-loop-variable : goal.invariant-loop-variable
invariant-loop-variable l = l.joints.items ≡ own_joints l.labels (l.variable - 1)
