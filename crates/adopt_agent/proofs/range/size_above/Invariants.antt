use Rattle.std.proofs.Common.{◌≡◌, drop, None}
use Rattle.std.specs.List.{zip}
use Rattle.adopt_context.specs.Context.{value_in}
use Rattle.adopt_agent.proofs.range.size_above.Given as goal

abbrev pub invariant-loop-k : goal.invariant-loop-k
invariant-loop-k l = value_in (zip (drop l.k l.path) (drop l.k l.sizes)) l.var ≡ None
