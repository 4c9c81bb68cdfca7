use Rattle.std.proofs.Common.{◌≡◌, take}
use Rattle.dcop_base.specs.Faults.{greatest_sum}
use Rattle.shared_costs.proofs.scale.sum_of_greatest.Given as goal

abbrev pub invariant-loop-table : goal.invariant-loop-table
invariant-loop-table l = l.sum ≡ greatest_sum (take l.table-index l.tables)
