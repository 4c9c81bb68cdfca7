use Rattle.std.proofs.Common.{◌≡◌, length}
use Rattle.agent_knowledge.proofs.tables.table_counts.Given as goal

abbrev pub invariant-loop-table : goal.invariant-loop-table
invariant-loop-table l = length l.counts.items ≡ length l.problem.sizes
