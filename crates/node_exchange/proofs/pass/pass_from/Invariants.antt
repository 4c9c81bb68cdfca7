use Rattle.std.proofs.Common.{◌≡◌, ◌+◌, ◌-◌, ◌≤◌}
use Rattle.worker_laws.specs.Cells.{EachAre}
use Rattle.node_exchange.specs.Passings.{SamePassing, HaveCome}
use Rattle.node_exchange.specs.Honest.{AreHonest, HaveReceivedAll}
use Rattle.node_exchange.specs.Turned.{row_loads, AreTurnedWith}
use Rattle.node_exchange.proofs.pass.pass_from.Given as goal

abbrev pub invariant-loop-second : goal.invariant-loop-second
invariant-loop-second g l = record {
  after : l.first + 1 ≤ l.second;
  same : EachAre SamePassing l.initial.passings l.passings;
  within : l.second ≤ l.nodes;
  loads : AreTurnedWith g.D.W.Wire.told g.D.W.Wire.is_joined 0 (row_loads l.first (l.second - 1 - l.first) l.initial.passings) l.initial.wires.items l.wires.items;
  faults : g.D.Dialer.faults l.dialer ≡ g.D.Dialer.faults l.initial.dialer;
  dialer : g.D.Dialer.is_honest l.initial.dialer → g.D.Dialer.is_honest l.dialer;
  wires_honest : AreHonest g.D.W.Wire.told g.D.W.Wire.is_joined l.initial.wires.items → HaveCome l.first (l.first + 1) l.initial.passings → AreHonest g.D.W.Wire.told g.D.W.Wire.is_joined l.wires.items;
  come : AreHonest g.D.W.Wire.told g.D.W.Wire.is_joined l.initial.wires.items → HaveCome l.first (l.first + 1) l.initial.passings → HaveCome l.first l.second l.passings;
  carried : HaveReceivedAll g.D.W.Wire.told l.wires.items → HaveCome l.first (l.first + 1) l.initial.passings → HaveCome l.first l.second l.passings;
}
