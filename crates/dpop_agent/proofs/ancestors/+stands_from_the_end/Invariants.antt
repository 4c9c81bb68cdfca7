use Rattle.std.proofs.Common.{length}
use Rattle.dpop_agent.proofs.ancestors.+stands_from_the_end.Given as goal

abbrev pub decreases-stands_from_the_end : goal.decreases-stands_from_the_end
decreases-stands_from_the_end l = length l.vars.now
