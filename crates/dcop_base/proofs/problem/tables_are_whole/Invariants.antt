use Rattle.std.proofs.Common.{take}
use Rattle.std.specs.List.{All}
use Rattle.dcop_base.specs.Table.{IsTable}
use Rattle.dcop_base.proofs.problem.tables_are_whole.Given as goal

abbrev pub invariant-loop-table : goal.invariant-loop-table
invariant-loop-table l = All IsTable (take l.table-index l.tables)
