use Rattle.std.proofs.Common.{◌≡◌, ◌<◌, ◌≤◌, ◌-◌, nat_lt, length}
use Rattle.std.specs.Prelude.{slice_index}
use Rattle.adopt_context.specs.Bounds.{lower_at, lowest}
use Rattle.adopt_agent.proofs.choose.best_lower.Given as goal

abbrev pub invariant-loop-d : goal.invariant-loop-d
invariant-loop-d l = record {
  from : 1 ≤ l.d;
  below : l.best < length l.costs;
  best_is : l.best ≡ lowest nat_lt (lower_at (slice_index l.costs) l.bounds.rows) (l.d - 1);
  least_is : l.least ≡ lower_at (slice_index l.costs) l.bounds.rows l.best;
}
