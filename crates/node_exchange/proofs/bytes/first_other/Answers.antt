use Rattle.std.proofs.Common.{refl}
use Rattle.node_exchange.proofs.LetterLaws.{same_further}
use Rattle.node_exchange.proofs.bytes.first_other.Goals as goal

pub loop-place-preserved : goal.loop-place-preserved
loop-place-preserved c = same_further c.args.came.now c.args.went.now c.loop-place.place c.loop-place.invariant (c.if-not-are_same_at.ensures.0 refl)
