use Rattle.std.proofs.Common.{◌≡◌, take}
use Rattle.dcop_base.specs.Table.{has}
use Rattle.dfs_agent.proofs.listed.is_among.Given as goal

abbrev pub invariant-loop-other : goal.invariant-loop-other
invariant-loop-other l = l.found ≡ has (take l.other-index l.vars) l.fn.var
