use Rattle.std.proofs.Common.{take}
use Rattle.bucket_bounds.specs.Keeping.{IsKeptOf}
use Rattle.bucket_bounds.proofs.keeping.kept_of.Given as goal

abbrev pub invariant-loop-table : goal.invariant-loop-table
invariant-loop-table l = IsKeptOf l.room (take l.table-index l.projections) l.kept
