use Rattle.std.proofs.Common.{◌≡◌, ◌++◌, ◌-◌, take}
use Rattle.std.specs.List.{flat_map}
use Rattle.pseudotree.specs.Tree.{path_of}
use Rattle.pseudotree.specs.Preorder.{subtree}
use Rattle.pseudotree.proofs.order.+push_subtree.Given as goal

abbrev pub decreases-push_subtree : goal.decreases-push_subtree
decreases-push_subtree l = l.levels

abbrev pub invariant-loop-child : goal.invariant-loop-child
invariant-loop-child l = l.order.items ≡ l.initial.order.items ++ flat_map (subtree (path_of l.children) (l.levels - 1)) (take l.child-index l.child-items)
