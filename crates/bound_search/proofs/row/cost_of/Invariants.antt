use Rattle.std.proofs.Common.{◌≡◌, ◌+◌, drop, slice_index}
use Rattle.dcop_base.specs.Values.{cost_with}
use Rattle.bound_search.proofs.row.cost_of.Given as goal

abbrev pub invariant-loop-table : goal.invariant-loop-table
invariant-loop-table l = l.cost + cost_with (drop l.table-index l.tables) (slice_index l.values) ≡ cost_with l.tables (slice_index l.values)
