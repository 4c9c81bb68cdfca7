use Rattle.node_exchange.proofs.BusyLaws.{IsSeenTo}
use Rattle.node_exchange.proofs.busy.busy_part.Given as goal

abbrev pub invariant-loop-place : goal.invariant-loop-place
invariant-loop-place l = IsSeenTo l.place l.passings l.start l.end
