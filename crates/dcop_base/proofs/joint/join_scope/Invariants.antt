use Rattle.std.proofs.Common.{◌∷◌, take}
use Rattle.dcop_base.specs.Labels.{IsJoined}
use Rattle.dcop_base.proofs.joint.join_scope.Given as goal

abbrev pub invariant-loop-other : goal.invariant-loop-other
invariant-loop-other l = IsJoined (l.first ∷ take l.other-index l.others) l.initial.labels l.labels
