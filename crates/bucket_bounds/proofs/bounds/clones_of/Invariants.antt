use Rattle.std.proofs.Common.{◌≡◌, take}
use Rattle.bucket_bounds.proofs.bounds.clones_of.Given as goal

abbrev pub invariant-loop-table : goal.invariant-loop-table
invariant-loop-table l = l.clones.items ≡ take l.table-index l.tables
