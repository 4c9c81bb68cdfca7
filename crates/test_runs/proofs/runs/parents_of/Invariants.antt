use Rattle.std.proofs.Common.{◌≡◌, ℕ, ◌<◌, Some, length}
use Rattle.pseudotree.specs.Fault.{parent_at}
use Rattle.test_runs.proofs.runs.parents_of.Given as goal

abbrev pub invariant-loop-var : goal.invariant-loop-var
invariant-loop-var l = (length l.parents.items ≡ l.var-index) × ((v u : ℕ) → parent_at l.parents.items v ≡ Some u → u < length l.fn.above)
