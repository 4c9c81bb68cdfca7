use Rattle.std.proofs.Common.{◌-◌}
use Rattle.agent_cells.proofs.PlaceLaws.{IsHalving}
use Rattle.agent_cells.proofs.places.first_from.Given as goal

abbrev pub invariant-loop-low : goal.invariant-loop-low
invariant-loop-low g l = IsHalving l.ends l.peer l.low l.high

abbrev pub decreases-loop-low : goal.decreases-loop-low
decreases-loop-low g l = l.high - l.low
