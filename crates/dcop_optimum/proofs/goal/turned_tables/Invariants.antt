use Rattle.std.proofs.Common.{◌≡◌, map, take}
use Rattle.dcop_optimum.specs.Goal.{turned_table}
use Rattle.dcop_optimum.proofs.goal.turned_tables.Given as goal

abbrev pub invariant-loop-table : goal.invariant-loop-table
invariant-loop-table l = l.turned.items ≡ map turned_table (take l.table-index l.tables)
