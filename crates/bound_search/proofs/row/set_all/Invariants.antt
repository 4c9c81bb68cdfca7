use Rattle.std.proofs.Common.{◌≡◌, ℕ, ◌<◌, get_or}
use Rattle.bound_search.proofs.row.set_all.Given as goal

abbrev pub invariant-loop-own : goal.invariant-loop-own
invariant-loop-own l = (d : ℕ) → d < l.own-index → get_or l.row d 0 ≡ l.entry
