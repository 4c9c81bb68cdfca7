use Rattle.std.proofs.Common.{◌*◌, ◌+◌}
use Rattle.shared_costs.proofs.RunLaws.{IsLoweredTo}
use Rattle.shared_costs.proofs.runs.lower.Given as goal

abbrev pub invariant-loop-block : goal.invariant-loop-block
invariant-loop-block l = IsLoweredTo l.inner l.cells l.fn.lows (l.block * (l.size * l.inner)) l.lows

abbrev pub invariant-loop-number : goal.invariant-loop-number
invariant-loop-number l = IsLoweredTo l.inner l.cells l.fn.lows ((l.block * l.size + l.number) * l.inner) l.lows
