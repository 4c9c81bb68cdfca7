use Rattle.std.proofs.Common.{◌≡◌, ◌≤◌, [], take, drop}
use Rattle.dcop_base.specs.Faults.{tables_fault}
use Rattle.dcop_base.specs.Totals.{AreTotals}
use Rattle.dcop_base.proofs.fault.tables_fault_of.Given as goal

abbrev pub invariant-loop-table : goal.invariant-loop-table
invariant-loop-table l = record {
  totals : AreTotals (take l.table-index l.tables) l.before;
  cells : l.before.cells ≤ 4194304;
  sum : l.before.sum ≤ 4611686018427387904;
  rest : tables_fault l.sizes (take l.table-index l.tables) (drop l.table-index l.tables) ≡ tables_fault l.sizes [] l.tables;
}
