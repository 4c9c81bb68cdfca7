use Rattle.shared_costs.specs.Runs.{IsShiftedRun}
use Rattle.shared_costs.proofs.runs.shift_run.Given as goal

abbrev pub invariant-loop-k : goal.invariant-loop-k
invariant-loop-k l = IsShiftedRun l.start l.k l.low l.gain l.fn.cells l.cells
