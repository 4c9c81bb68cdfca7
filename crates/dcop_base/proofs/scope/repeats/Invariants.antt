use Rattle.std.proofs.Common.{◌≡◌, length}
use Rattle.dcop_base.specs.Table.{has_repeat}
use Rattle.dcop_base.proofs.scope.repeats.Given as goal

abbrev pub invariant-loop-first : goal.invariant-loop-first
invariant-loop-first l = has_repeat l.rest ≡ has_repeat l.fn.scope

abbrev pub decreases-loop-first : goal.decreases-loop-first
decreases-loop-first l = length l.rest
