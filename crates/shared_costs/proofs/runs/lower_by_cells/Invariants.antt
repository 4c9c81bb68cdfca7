use Rattle.std.proofs.Common.{◌*◌, ◌+◌}
use Rattle.shared_costs.proofs.RunLaws.{IsLoweredTo}
use Rattle.shared_costs.proofs.runs.lower_by_cells.Given as goal

abbrev pub invariant-loop-block : goal.invariant-loop-block
invariant-loop-block l = IsLoweredTo 1 l.cells l.fn.lows (l.block * (l.size * 1)) l.lows

abbrev pub invariant-loop-number : goal.invariant-loop-number
invariant-loop-number l = IsLoweredTo 1 l.cells l.fn.lows ((l.block * l.size + l.number) * 1) l.lows
