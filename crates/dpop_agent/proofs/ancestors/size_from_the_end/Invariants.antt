use Rattle.std.proofs.Common.{◌≡◌, ◌≤◌, false, length, drop}
use Rattle.dcop_base.specs.Table.{has}
use Rattle.dpop_agent.proofs.ancestors.size_from_the_end.Given as goal

abbrev pub invariant-loop-left : goal.invariant-loop-left
invariant-loop-left l = (l.left ≤ length l.path) × (has (drop l.left l.path) l.var ≡ false)

abbrev pub decreases-loop-left : goal.decreases-loop-left
decreases-loop-left l = l.left
