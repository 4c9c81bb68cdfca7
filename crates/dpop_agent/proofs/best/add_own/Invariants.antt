use Rattle.std.proofs.Common.{◌==◌, ◌||◌, take}
use Rattle.std.specs.List.{filter, list_all}
use Rattle.dcop_base.specs.Table.{has}
use Rattle.protocol_steps.specs.Values.{valued}
use Rattle.dpop_agent.specs.Row.{HasRisen}
use Rattle.dpop_agent.proofs.best.add_own.Given as goal

abbrev pub invariant-loop-table : goal.invariant-loop-table
invariant-loop-table l =
    HasRisen l.me (valued l.values) (filter (λ t. list_all (λ u. u == l.me || has l.path u) t.scope) (take l.table-index l.tables)) l.fn.costs l.costs
