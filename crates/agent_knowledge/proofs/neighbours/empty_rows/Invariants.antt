use Rattle.std.proofs.Common.{◌≡◌, [], replicate}
use Rattle.agent_knowledge.proofs.neighbours.empty_rows.Given as goal

abbrev pub invariant-loop : goal.invariant-loop
invariant-loop l = l.rows.items ≡ replicate l.counter []
