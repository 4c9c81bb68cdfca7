use Rattle.std.proofs.Common.{◌≡◌, take}
use Rattle.problem_order.proofs.reordering.copy_of.Given as goal

abbrev pub invariant-loop-value : goal.invariant-loop-value
invariant-loop-value l = l.copy ≡ take l.value l.labels
