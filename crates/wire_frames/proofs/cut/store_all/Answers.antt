use Rattle.wire_frames.proofs.CutLaws.{holds_more}
use Rattle.wire_frames.proofs.cut.store_all.Goals as goal

pub loop-payload-preserved : goal.loop-payload-preserved
loop-payload-preserved c =
    holds_more c.args.limit c.args.bytes.now c.args.ready.now.items c.loop-payload.rest.now c.loop-payload.ready.items c.in-Whole.payload.now c.in-Whole.behind.now c.store.new.ready.items
    c.loop-payload.invariant c.in-Whole.ensures.0 c.in-Whole.ensures.1 c.in_ok-store-in-Whole.ensures.held
