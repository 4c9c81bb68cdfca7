use Rattle.std.proofs.Common.{◌≡◌, ℕ, min}
use Rattle.dcop_base.specs.Limits.{amount_limit}
use Rattle.util_kernel.proofs.LaneLaws.{combined}
use Rattle.util_kernel.proofs.cap.cap_all.Given as goal

abbrev pub invariant-loop-at : goal.invariant-loop-at
invariant-loop-at l = l.amounts ≡ combined (λ (a b : ℕ). min a amount_limit) l.at l.fn.amounts l.fn.amounts
