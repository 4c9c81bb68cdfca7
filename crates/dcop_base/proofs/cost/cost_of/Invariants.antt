use Rattle.std.proofs.Common.{◌≡◌, take}
use Rattle.std.specs.List.{sum_by}
use Rattle.dcop_base.specs.Table.{cell_at}
use Rattle.dcop_base.proofs.cost.cost_of.Given as goal

abbrev pub invariant-loop-table : goal.invariant-loop-table
invariant-loop-table l = l.sum ≡ sum_by (λ t. cell_at t l.values) (take l.table-index l.fn.problem.tables)
