use Rattle.std.proofs.Common.{◌≡◌, drop}
use Rattle.dfs_agent.proofs.VisitLaws.{are_spare}
use Rattle.dfs_agent.proofs.visited.mark_distinct.Given as goal

abbrev pub invariant-loop-var : goal.invariant-loop-var
invariant-loop-var l = are_spare l.fn.marks l.vars ≡ are_spare l.marks (drop l.var-index l.vars)
