use Rattle.std.proofs.Common.{◌≡◌, [], replicate}
use Rattle.agent_knowledge.specs.Rows.{rows_in}
use Rattle.agent_knowledge.proofs.tables.empty_rows.Given as goal

abbrev pub invariant-loop-count : goal.invariant-loop-count
invariant-loop-count l = rows_in l.rows.items ≡ replicate l.count-index []
