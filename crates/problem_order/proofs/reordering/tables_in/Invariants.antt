use Rattle.std.proofs.Common.{take}
use Rattle.std.specs.List.{AllZip}
use Rattle.problem_order.specs.Reordered.{IsTableFor}
use Rattle.problem_order.proofs.reordering.tables_in.Given as goal

abbrev pub invariant-loop-table : goal.invariant-loop-table
invariant-loop-table l = AllZip (IsTableFor l.order) (take l.table-index l.tables) l.new.items
