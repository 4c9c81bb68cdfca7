use Rattle.std.proofs.Common.{◌≡◌, map}
use Rattle.std.specs.List.{range_with_len}
use Rattle.pseudotree.specs.Tree.{path_of}
use Rattle.cut_dpop.proofs.tree.paths_of.Given as goal

abbrev pub invariant-loop-index : goal.invariant-loop-index
invariant-loop-index l = l.paths.items ≡ map (path_of l.tree.paths) (range_with_len 0 l.index)
