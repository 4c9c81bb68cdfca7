use Rattle.std.proofs.Common.{◌*◌, ◌+◌}
use Rattle.shared_costs.proofs.RunLaws.{IsShiftedTo}
use Rattle.shared_costs.proofs.runs.shift.Given as goal

abbrev pub invariant-loop-block : goal.invariant-loop-block
invariant-loop-block l = IsShiftedTo l.inner l.lows l.gains (l.block * (l.size * l.inner)) l.fn.cells l.cells

abbrev pub invariant-loop-number : goal.invariant-loop-number
invariant-loop-number l = IsShiftedTo l.inner l.lows l.gains ((l.block * l.size + l.number) * l.inner) l.fn.cells l.cells
