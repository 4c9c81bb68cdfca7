use Rattle.std.proofs.Common.{◌≡◌, drop}
use Rattle.std.specs.List.{concat}
use Rattle.dcop_base.specs.Table.{has}
use Rattle.dfs_agent.proofs.listed.is_among_any.Given as goal

abbrev pub invariant-loop-vars : goal.invariant-loop-vars
invariant-loop-vars l = has (concat l.lists) l.fn.var ≡ has (concat (drop l.vars-index l.lists)) l.fn.var
