use Rattle.std.proofs.Common.{drop}
use Rattle.wire_pump.specs.Wire.{Gave}
use Rattle.wire_pump.proofs.LaneLaws.{Receives-more}
use Rattle.wire_pump.proofs.lane.receive.Goals as goal

pub loop-came-preserved : goal.loop-came-preserved
loop-came-preserved g c =
    let gave : Gave (g.W.Wire.told c.loop-came.wire) (drop c.loop-came.came c.loop-came.buffer) (drop c.loop-came.came c.read_at.new.buffer) c.in-Ready-Ok.count (g.W.Wire.told c.read_at.new.wire) =
    rw c.in-Ready-Ok.field-0-is at c.in-Ready-Ok.ensures.given in
    record {
      received = Receives-more (g.W.Wire.told c.args.wire.now) (g.W.Wire.told c.loop-came.wire) (g.W.Wire.told c.read_at.new.wire) c.args.buffer.now c.loop-came.buffer c.read_at.new.buffer
          c.args.came.now c.loop-came.came c.in-Ready-Ok.count c.loop-came.invariant.received gave c.read_at.ensures.front c.read_at.ensures.length;
      joined = λ w h. c.read_at.ensures.joined w (c.loop-came.invariant.joined w h);
      joins = λ w h. c.read_at.ensures.joins w (c.loop-came.invariant.joins w h);
      kept = λ fact h. c.read_at.ensures.kept fact (c.loop-came.invariant.kept fact h);
    }
