use Rattle.std.proofs.Common.{◌≡◌, None, replicate}
use Rattle.adopt_bounds.proofs.bounds.none_yet.Given as goal

abbrev pub invariant-loop : goal.invariant-loop
invariant-loop l = l.upper.items ≡ replicate l.counter None
