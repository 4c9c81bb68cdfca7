use Rattle.std.proofs.Common.{◌≡◌, ◌∷◌, take}
use Rattle.std.specs.List.{concat}
use Rattle.dfs_agent.proofs.parts.subtree_of.Given as goal

abbrev pub invariant-loop-vars : goal.invariant-loop-vars
invariant-loop-vars l = l.subtree.items ≡ l.fn.me ∷ concat (take l.vars-index l.kept)
