use Rattle.std.proofs.Common.{◌*◌, ◌+◌}
use Rattle.shared_costs.proofs.RunLaws.{IsShiftedTo}
use Rattle.shared_costs.proofs.runs.shift_by_cells.Given as goal

abbrev pub invariant-loop-block : goal.invariant-loop-block
invariant-loop-block l = IsShiftedTo 1 l.lows l.gains (l.block * (l.size * 1)) l.fn.cells l.cells

abbrev pub invariant-loop-number : goal.invariant-loop-number
invariant-loop-number l = IsShiftedTo 1 l.lows l.gains ((l.block * l.size + l.number) * 1) l.fn.cells l.cells
