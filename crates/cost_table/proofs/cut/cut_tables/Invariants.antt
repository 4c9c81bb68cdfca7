use Rattle.std.proofs.Common.{take}
use Rattle.std.specs.List.{AllZip}
use Rattle.cost_table.specs.Slices.{IsCutOf}
use Rattle.cost_table.proofs.cut.cut_tables.Given as goal

abbrev pub invariant-loop-table : goal.invariant-loop-table
invariant-loop-table l = AllZip (IsCutOf l.problem.sizes l.cut l.values) (take l.table-index l.problem.tables) l.tables.items
