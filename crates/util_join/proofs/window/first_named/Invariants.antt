use Rattle.std.proofs.Common.{◌≡◌, ℕ, ◌<◌, false, get_or}
use Rattle.dcop_base.specs.Table.{has}
use Rattle.util_join.proofs.window.first_named.Given as goal

abbrev pub invariant-loop-k : goal.invariant-loop-k
invariant-loop-k l = (j : ℕ) → j < l.k → has l.scope (get_or l.over j 0) ≡ false
