use Rattle.std.proofs.Common.{◌≡◌, ℕ, ◌+◌, ◌<◌, ◌≤◌, get_or}
use Rattle.shared_costs.proofs.sharing.part.Given as goal

abbrev pub invariant-loop-a : goal.invariant-loop-a
invariant-loop-a l = record {
  sums : (k : ℕ) → k < l.a → get_or l.parts k 0 + get_or l.pot k 0 ≡ get_or l.fn.pot k 0;
  last : l.left ≡ 1 → (k : ℕ) → k < l.a → get_or l.pot k 0 ≡ 0;
  rest : (k : ℕ) → l.a ≤ k → get_or l.pot k 0 ≡ get_or l.fn.pot k 0;
}
