use Rattle.std.proofs.Common.{◌≡◌, drop}
use Rattle.adopt_agent.specs.Costs.{is_alike}
use Rattle.adopt_agent.proofs.costs.is_alike.Given as goal

abbrev pub invariant-loop-k : goal.invariant-loop-k
invariant-loop-k l =
    is_alike l.vars l.pairs l.others ≡ is_alike l.vars (drop l.k l.pairs) (drop l.k l.others)
