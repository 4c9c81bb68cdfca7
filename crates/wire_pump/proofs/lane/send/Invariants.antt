use Rattle.std.proofs.Common.{◌-◌, length}
use Rattle.futures.specs.Task.{Keeps}
use Rattle.wire_pump.specs.Lane.{Sends}
use Rattle.wire_pump.proofs.lane.send.Given as goal

abbrev pub invariant-loop-went : goal.invariant-loop-went
invariant-loop-went g l = record {
  sent : Sends (g.W.Wire.told l.initial.wire) l.bytes l.initial.went (g.W.Wire.told l.wire) l.went;
  joined : (w : _) → g.W.Wire.is_joined l.initial.wire w → g.W.Wire.is_joined l.wire w;
  joins : (w : _) → g.W.Wire.is_joined w l.initial.wire → g.W.Wire.is_joined w l.wire;
  kept : Keeps l.initial.cx l.cx;
}

abbrev pub decreases-loop-went : goal.decreases-loop-went
decreases-loop-went g l = length l.bytes - l.went
