use Rattle.std.proofs.Common.{◌≡◌, ◌≤◌, [], length, map, vec_len}
use Rattle.std.specs.List.{All}
use Rattle.shared_costs.specs.Tables.{IsTableOver}
use Rattle.shared_costs.specs.Depths.{AreByDepth}
use Rattle.shared_costs.proofs.depths.lists_by_depth.Given as goal

abbrev pub invariant-loop : goal.invariant-loop
invariant-loop l = record {
  many : vec_len l.lists ≡ l.counter;
  none : All (λ list. list.items ≡ []) l.lists.items;
}

abbrev pub invariant-loop-table : goal.invariant-loop-table
invariant-loop-table l = record {
  each : All (IsTableOver l.sizes) l.tables.items;
  some : All (λ t. 1 ≤ length t.scope) l.tables.items;
  depths : AreByDepth l.sizes l.fn.tables.items l.tables.items (map (λ list. list.items) l.lists.items);
}

abbrev pub decreases-loop-table : goal.decreases-loop-table
decreases-loop-table l = vec_len l.tables
