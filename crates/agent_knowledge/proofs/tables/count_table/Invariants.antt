use Rattle.std.proofs.Common.{◌≡◌, length}
use Rattle.agent_knowledge.proofs.tables.count_table.Given as goal

abbrev pub invariant-loop-var : goal.invariant-loop-var
invariant-loop-var l = length l.counts ≡ length l.initial.counts
