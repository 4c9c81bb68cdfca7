use Rattle.std.proofs.Common.{◌≡◌, ◌||◌, not, drop}
use Rattle.std.specs.List.{concat, find}
use Rattle.dcop_base.specs.Table.{has}
use Rattle.dfs_agent.proofs.listed.first_outside.Given as goal

abbrev pub invariant-loop-var : goal.invariant-loop-var
invariant-loop-var l = find (λ u. not (has l.path u || has (concat l.kept) u)) l.vars ≡ find (λ u. not (has l.path u || has (concat l.kept) u)) (drop l.var-index l.vars)
