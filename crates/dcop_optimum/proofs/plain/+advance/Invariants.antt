use Rattle.std.proofs.Common.{length}
use Rattle.dcop_optimum.proofs.plain.+advance.Given as goal

abbrev pub decreases-advance : goal.decreases-advance
decreases-advance l = length l.sizes.now
