use Rattle.std.proofs.Common.{◌≡◌, false, not, get_or, take}
use Rattle.std.specs.List.{filter}
use Rattle.dfs_agent.proofs.visited.unmarked.Given as goal

abbrev pub invariant-loop-var : goal.invariant-loop-var
invariant-loop-var l = l.rest.items ≡ filter (λ v. not (get_or l.marks v false)) (take l.var-index l.vars)
