use Rattle.std.proofs.Common.{◌≡◌, ℕ, ◌+◌, ◌*◌, ◌<◌, length, get_or}
use Rattle.util_project.specs.Projection.{IsLeast}
use Rattle.util_project.proofs.leasts.lower.Given as goal

abbrev pub invariant-loop-number : goal.invariant-loop-number
invariant-loop-number l = record {
  long : length l.run ≡ length l.fn.run;
  least : (i : ℕ) → i < length l.fn.run → IsLeast (λ d. get_or l.block (d * length l.fn.run + i) 0) l.number (get_or l.run i 0);
}
