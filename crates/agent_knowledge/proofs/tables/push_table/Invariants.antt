use Rattle.std.proofs.Common.{◌≡◌, ℕ, ◌<◌, ◌++◌, ◌∷◌, [], length, take, cond, slice_index_or}
use Rattle.dcop_base.specs.Table.{has}
use Rattle.agent_knowledge.specs.Rows.{rows_in}
use Rattle.agent_knowledge.proofs.tables.push_table.Given as goal

abbrev pub invariant-loop-var : goal.invariant-loop-var
invariant-loop-var l = record {
  pushed : (v : ℕ) → v < length l.initial.rows → slice_index_or (rows_in l.rows) v [] ≡ slice_index_or (rows_in l.initial.rows) v [] ++ cond (has (take l.var-index l.var-items) v) (l.table ∷ []) [];
  size : length l.rows ≡ length l.initial.rows;
}
