use Rattle.std.proofs.Common.{◌≡◌, length, take}
use Rattle.dcop_base.specs.Graph.{share_table}
use Rattle.agent_knowledge.specs.Rows.{Adds}
use Rattle.agent_knowledge.proofs.neighbours.add_scopes.Given as goal

abbrev pub invariant-loop-table : goal.invariant-loop-table
invariant-loop-table l = record {
  added : Adds (share_table (take l.table-index l.tables)) l.initial.rows l.rows;
  size : length l.rows ≡ length l.initial.rows;
}
