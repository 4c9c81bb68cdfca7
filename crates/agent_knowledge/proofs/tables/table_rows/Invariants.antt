use Rattle.std.proofs.Common.{◌≡◌, ℕ, ◌<◌, [], length, take, slice_index_or}
use Rattle.std.specs.List.{filter}
use Rattle.dcop_base.specs.Table.{has}
use Rattle.agent_knowledge.specs.Rows.{rows_in}
use Rattle.agent_knowledge.proofs.tables.table_rows.Given as goal

abbrev pub invariant-loop-table : goal.invariant-loop-table
invariant-loop-table l = record {
  size : length l.rows.items ≡ length l.problem.sizes;
  rows : (v : ℕ) → v < length l.problem.sizes → slice_index_or (rows_in l.rows.items) v [] ≡ filter (λ t. has t.scope v) (take l.table-index l.table-items);
}
