use Rattle.std.proofs.Common.{◌≡◌, ◌≤◌, ◌-◌, length}
use Rattle.std.specs.List.{filter, range_with_len}
use Rattle.pseudotree.specs.Marks.{is_marked_lower}
use Rattle.pseudotree.proofs.ancestry.lower_of.Given as goal

abbrev pub invariant-loop-index : goal.invariant-loop-index
invariant-loop-index l = (l.begin ≤ length l.paths) × (l.lower ≡ filter (is_marked_lower l.paths l.marks l.var) (range_with_len 0 l.begin))

abbrev pub decreases-loop-index : goal.decreases-loop-index
decreases-loop-index l = length l.paths - l.begin
