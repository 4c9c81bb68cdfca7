use Rattle.std.proofs.Common.{◌+◌, ◌-◌, length}
use Rattle.agent_links.proofs.sharing.put_greatest.Given as goal

abbrev pub decreases-loop-greatest : goal.decreases-loop-greatest
decreases-loop-greatest l = l.depth + 1 - length l.greatest.items
