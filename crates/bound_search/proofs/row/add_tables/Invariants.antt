use Rattle.std.proofs.Common.{◌≡◌, ℕ, ◌+◌, ◌<◌, drop, length, get_or, slice_index}
use Rattle.dcop_base.specs.Values.{cost_with, with_own}
use Rattle.bound_search.proofs.row.add_tables.Given as goal

abbrev pub invariant-loop-table : goal.invariant-loop-table
invariant-loop-table l = (d : ℕ) → d < length l.fn.row → get_or l.row d 0 + cost_with (drop l.table-index l.tables) (with_own l.var d (slice_index l.values)) ≡ get_or l.fn.row d 0 + cost_with l.tables (with_own l.var d (slice_index l.values))
