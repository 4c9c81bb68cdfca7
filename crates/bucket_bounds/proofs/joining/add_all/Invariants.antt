use Rattle.std.proofs.Common.{take}
use Rattle.bucket_bounds.specs.Joining.{HasGainedCosts}
use Rattle.bucket_bounds.proofs.joining.add_all.Given as goal

abbrev pub invariant-loop-table : goal.invariant-loop-table
invariant-loop-table l = HasGainedCosts (take l.table-index l.tables) l.fn.joined l.joined
