use Rattle.std.proofs.Common.{◌≡◌, eqb, length}
use Rattle.std.specs.List.{filter, flat_map, range_with_len}
use Rattle.pseudotree.specs.Tree.{path_of}
use Rattle.pseudotree.specs.Preorder.{subtree}
use Rattle.pseudotree.proofs.order.preorder_of.Given as goal

abbrev pub invariant-loop-index : goal.invariant-loop-index
invariant-loop-index l = l.order.items ≡ flat_map (subtree (path_of l.children) (length l.paths)) (filter (λ v. eqb (length (path_of l.paths v)) 0) (range_with_len 0 l.index))
