use Rattle.std.proofs.Common.{◌≡◌}
use Rattle.bucket_bounds.proofs.sharing.tables_of.Given as goal

abbrev pub invariant-loop-table : goal.invariant-loop-table
invariant-loop-table l = l.tables.items ≡ l.yielded
