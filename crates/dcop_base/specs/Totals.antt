-- Totals of the tables that come before a table.
use Rattle.std.specs.Prelude.{◌≡◌, List, length}
use Rattle.dcop_base.specs.Table.{CostTable}
use Rattle.dcop_base.specs.Faults.{cell_count, greatest_sum}
use Rattle.dcop_base.specs.declared.fault.Totals.{Totals}

-- these are the totals of the earlier tables: their number, the number of their cells, and the sum of their greatest cells
pub record AreTotals (earlier : List CostTable) (before : Totals) : Type 0 where
  pub tables : length earlier ≡ before.tables
  pub cells : cell_count earlier ≡ before.cells
  pub sum : greatest_sum earlier ≡ before.sum
