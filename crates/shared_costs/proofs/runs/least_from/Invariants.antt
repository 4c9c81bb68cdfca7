use Rattle.std.proofs.Common.{ℕ, ◌<◌, ◌≤◌, get_or}
use Rattle.shared_costs.proofs.runs.least_from.Given as goal

abbrev pub invariant-loop-cell : goal.invariant-loop-cell
invariant-loop-cell l = record {
  amount : l.least ≤ l.amount;
  cells : (k : ℕ) → k < l.cell-index → l.least ≤ get_or l.cells k 0;
}
