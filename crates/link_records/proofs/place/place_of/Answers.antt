use Rattle.std.proofs.Common.{refl}
use Rattle.link_records.proofs.DifferLaws.{same_further}
use Rattle.link_records.proofs.place.place_of.Goals as goal

pub loop-place-preserved : goal.loop-place-preserved
loop-place-preserved c = same_further c.args.arrived.now c.args.drained.now c.loop-place.place c.loop-place.invariant (c.if-not-are_same_at.ensures.0 refl)
