use Rattle.std.proofs.Common.{◌≡◌, take}
use Rattle.std.specs.List.{flat_map}
use Rattle.dfs_agent.proofs.parts.children_of.Given as goal

abbrev pub invariant-loop-subtree : goal.invariant-loop-subtree
invariant-loop-subtree l = l.children ≡ flat_map (λ subtree. take 1 subtree) (take l.subtree-index l.kept)
