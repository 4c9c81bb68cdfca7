use Rattle.std.proofs.Common.{length}
use Rattle.certificate_check.proofs.odometer.+advance.Given as goal

abbrev pub decreases-advance : goal.decreases-advance
decreases-advance l = length l.scope.now
