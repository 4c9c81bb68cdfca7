use Rattle.std.proofs.Common.{◌≡◌, map}
use Rattle.std.specs.List.{range_with_len}
use Rattle.pseudotree.specs.Marks.{marked_lower_of}
use Rattle.pseudotree.proofs.ancestry.lower_of_all.Given as goal

abbrev pub invariant-loop-index : goal.invariant-loop-index
invariant-loop-index l = l.lists.items ≡ map (marked_lower_of l.paths l.marks) (range_with_len 0 l.index)
