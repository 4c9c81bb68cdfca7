use Rattle.std.proofs.Common.{◌≡◌, ◌++◌, take, drop, map}
use Rattle.dcop_base.proofs.LabelLaws.{relabelled}
use Rattle.dcop_base.proofs.joint.replace.Given as goal

abbrev pub invariant-loop-label : goal.invariant-loop-label
invariant-loop-label l = l.labels ≡ map (relabelled l.from l.to) (take l.label-index l.initial.labels) ++ drop l.label-index l.initial.labels
