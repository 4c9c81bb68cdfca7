use Rattle.std.proofs.Common.{◌≡◌, length}
use Rattle.pseudotree.proofs.ClimbLaws.{IsAscent}
use Rattle.pseudotree.proofs.climb.path_to.Given as goal

abbrev pub invariant-loop-step : goal.invariant-loop-step
invariant-loop-step l = (length l.climb.items ≡ l._step) × IsAscent l.parents l.fn.var l.climb.items l.above
