use Rattle.std.proofs.Common.{drop}
use Rattle.wire_pump.specs.Wire.{Wrote}
use Rattle.wire_pump.proofs.LaneLaws.{Sends-more}
use Rattle.wire_pump.proofs.lane.send.Goals as goal

pub loop-went-preserved : goal.loop-went-preserved
loop-went-preserved g c =
    let wrote : Wrote (g.W.Wire.told c.loop-went.wire) (drop c.loop-went.went c.args.bytes.now) c.in-Ready-Ok.count (g.W.Wire.told c.write_at.new.wire) =
    rw c.in-Ready-Ok.field-0-is at c.in-Ready-Ok.ensures.written in
    record {
      sent = Sends-more (g.W.Wire.told c.args.wire.now) (g.W.Wire.told c.loop-went.wire) (g.W.Wire.told c.write_at.new.wire) c.args.bytes.now c.args.went.now c.loop-went.went c.in-Ready-Ok.count
          c.loop-went.invariant.sent wrote;
      joined = λ w h. c.write_at.ensures.joined w (c.loop-went.invariant.joined w h);
      joins = λ w h. c.write_at.ensures.joins w (c.loop-went.invariant.joins w h);
      kept = λ fact h. c.write_at.ensures.kept fact (c.loop-went.invariant.kept fact h);
    }
