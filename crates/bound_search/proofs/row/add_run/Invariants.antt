use Rattle.std.proofs.Common.{◌≡◌, ℕ, ◌+◌, ◌<◌, ◌≤◌, get_or}
use Rattle.bound_search.proofs.row.add_run.Given as goal

abbrev pub invariant-loop-k : goal.invariant-loop-k
invariant-loop-k l = record {
  done : (d : ℕ) → d < l.k → get_or l.row d 0 ≡ get_or l.fn.row d 0 + get_or l.run d 0;
  left : (d : ℕ) → l.k ≤ d → get_or l.row d 0 ≡ get_or l.fn.row d 0;
}
