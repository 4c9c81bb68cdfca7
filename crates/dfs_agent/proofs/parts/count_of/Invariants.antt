use Rattle.std.proofs.Common.{◌≡◌, ◌+◌, length, drop}
use Rattle.std.specs.List.{concat}
use Rattle.dfs_agent.proofs.parts.count_of.Given as goal

abbrev pub invariant-loop-vars : goal.invariant-loop-vars
invariant-loop-vars l = l.count + length (concat (drop l.vars-index l.lists)) ≡ length (concat l.lists)
