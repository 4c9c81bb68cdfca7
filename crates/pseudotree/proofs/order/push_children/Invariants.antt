use Rattle.std.proofs.Common.{◌≡◌, length}
use Rattle.pseudotree.specs.Tree.{parent_of}
use Rattle.pseudotree.specs.Rows.{AreRows}
use Rattle.pseudotree.proofs.order.push_children.Given as goal

abbrev pub invariant-loop-index : goal.invariant-loop-index
invariant-loop-index l = (length l.rows ≡ length l.initial.rows) × AreRows (parent_of l.paths) l.index l.rows
