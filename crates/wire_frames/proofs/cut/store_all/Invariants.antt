use Rattle.std.proofs.Common.{length}
use Rattle.wire_frames.specs.Cut.{Holds}
use Rattle.wire_frames.proofs.cut.store_all.Given as goal

abbrev pub invariant-loop-payload : goal.invariant-loop-payload
invariant-loop-payload l = Holds l.limit l.bytes l.fn.ready.items l.rest l.ready.items

abbrev pub decreases-loop-payload : goal.decreases-loop-payload
decreases-loop-payload l = length l.rest
