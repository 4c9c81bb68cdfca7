use Rattle.std.proofs.Common.{◌≡◌, false, not, get_or, drop}
use Rattle.std.specs.List.{find}
use Rattle.dfs_agent.proofs.visited.first_unmarked.Given as goal

abbrev pub invariant-loop-var : goal.invariant-loop-var
invariant-loop-var l = find (λ v. not (get_or l.marks v false)) l.vars ≡ find (λ v. not (get_or l.marks v false)) (drop l.var-index l.vars)
