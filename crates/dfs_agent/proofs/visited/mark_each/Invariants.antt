use Rattle.std.proofs.Common.{◌≡◌, ℕ, ◌<◌, ◌||◌, false, length, get_or, take}
use Rattle.std.specs.List.{concat}
use Rattle.dcop_base.specs.Table.{has}
use Rattle.dfs_agent.proofs.visited.mark_each.Given as goal

abbrev pub invariant-loop-vars : goal.invariant-loop-vars
invariant-loop-vars l = (v : ℕ) → v < length l.marks → get_or l.marks v false ≡ (get_or l.fn.marks v false || has (concat (take l.vars-index l.lists)) v)
