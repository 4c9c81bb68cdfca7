use Rattle.std.proofs.Common.{length}
use Rattle.dpop_agent.proofs.ancestors.+stand_in_order.Given as goal

abbrev pub decreases-stand_in_order : goal.decreases-stand_in_order
decreases-stand_in_order l = length l.path.now
