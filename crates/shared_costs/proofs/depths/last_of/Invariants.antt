use Rattle.std.proofs.Common.{◌≡◌, ℕ, ◌<◌, ◌≤◌, length, get_or}
use Rattle.shared_costs.proofs.depths.last_of.Given as goal

abbrev pub invariant-loop-var : goal.invariant-loop-var
invariant-loop-var l = record {
  stands : (i : ℕ) × (i < length l.scope) × (get_or l.scope i 0 ≡ l.last);
  last : (k : ℕ) → k < l.var-index → get_or l.scope k 0 ≤ l.last;
}
