use Rattle.std.proofs.Common.{◌≡◌, ℕ, ◌<◌, ◌≤◌, ◌&&◌, length, get_or}
use Rattle.std.specs.List.{All}
use Rattle.dcop_base.specs.Table.{has}
use Rattle.dcop_base.specs.Values.{with_own}
use Rattle.dcop_base.specs.Limits.{amount_limit}
use Rattle.protocol_steps.specs.AdoptBounds.{counts}
use Rattle.protocol_steps.specs.Values.{valued}
use Rattle.adopt_agent.specs.Stage.{knowing}
use Rattle.adopt_agent.proofs.CountLaws.{cost_so_far}
use Rattle.adopt_agent.proofs.costs.add_tables.Given as goal

abbrev pub invariant-loop-table : goal.invariant-loop-table
invariant-loop-table l = record {
  within : All (λ c. c ≤ amount_limit) l.costs;
  counted : length l.costs ≡ l.own.size;
  each : (d : ℕ) → d < l.own.size → get_or l.costs d 0 ≡ cost_so_far (get_or l.fn.costs d 0) (λ t. has t.scope l.var && counts (knowing l.own l.place l.known) t) l.own.tables l.table-index (with_own l.own.me d (valued l.known));
}
