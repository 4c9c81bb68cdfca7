use Rattle.std.proofs.Common.{◌-◌, length}
use Rattle.futures.specs.Task.{Keeps}
use Rattle.wire_pump.specs.Lane.{Receives}
use Rattle.wire_pump.proofs.lane.receive.Given as goal

abbrev pub invariant-loop-came : goal.invariant-loop-came
invariant-loop-came g l = record {
  received : Receives (g.W.Wire.told l.initial.wire) l.initial.buffer l.initial.came (g.W.Wire.told l.wire) l.buffer l.came;
  joined : (w : _) → g.W.Wire.is_joined l.initial.wire w → g.W.Wire.is_joined l.wire w;
  joins : (w : _) → g.W.Wire.is_joined w l.initial.wire → g.W.Wire.is_joined w l.wire;
  kept : Keeps l.initial.cx l.cx;
}

abbrev pub decreases-loop-came : goal.decreases-loop-came
decreases-loop-came g l = length l.buffer - l.came
