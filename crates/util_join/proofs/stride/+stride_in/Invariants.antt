use Rattle.std.proofs.Common.{length}
use Rattle.util_join.proofs.stride.+stride_in.Given as goal

abbrev pub decreases-stride_in : goal.decreases-stride_in
decreases-stride_in l = length l.scope.now
