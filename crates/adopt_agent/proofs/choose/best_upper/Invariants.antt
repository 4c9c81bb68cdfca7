use Rattle.std.proofs.Common.{◌≡◌, ◌<◌, ◌≤◌, ◌-◌, length}
use Rattle.adopt_context.specs.Bounds.{is_below, lowest, upper_at}
use Rattle.adopt_agent.specs.Costs.{cost_where}
use Rattle.adopt_agent.proofs.choose.best_upper.Given as goal

abbrev pub invariant-loop-d : goal.invariant-loop-d
invariant-loop-d l = record {
  from : 1 ≤ l.d;
  below : l.best < length l.costs;
  best_is : l.best ≡ lowest is_below (upper_at (cost_where l.knows_higher l.costs) l.bounds.rows) (l.d - 1);
  least_is : l.least ≡ upper_at (cost_where l.knows_higher l.costs) l.bounds.rows l.best;
}
