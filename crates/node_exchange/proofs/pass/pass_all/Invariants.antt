use Rattle.std.proofs.Common.{◌≡◌, ◌+◌, ◌≤◌}
use Rattle.worker_laws.specs.Cells.{EachAre}
use Rattle.node_exchange.specs.Passings.{SamePassing, HaveCome, NothingCame}
use Rattle.node_exchange.specs.Honest.{AreHonest, HaveReceivedAll}
use Rattle.node_exchange.specs.Turned.{loads_of, AreTurnedWith}
use Rattle.node_exchange.proofs.pass.pass_all.Given as goal

abbrev pub invariant-loop-first : goal.invariant-loop-first
invariant-loop-first g l = record {
  same : EachAre SamePassing l.initial.passings l.passings;
  within : l.first ≤ l.nodes;
  loads : AreTurnedWith g.D.W.Wire.told g.D.W.Wire.is_joined 0 (loads_of l.nodes l.first l.initial.passings) l.initial.wires.items l.wires.items;
  faults : g.D.Dialer.faults l.dialer ≡ g.D.Dialer.faults l.initial.dialer;
  dialer : g.D.Dialer.is_honest l.initial.dialer → g.D.Dialer.is_honest l.dialer;
  wires_honest : AreHonest g.D.W.Wire.told g.D.W.Wire.is_joined l.initial.wires.items → NothingCame l.initial.passings → AreHonest g.D.W.Wire.told g.D.W.Wire.is_joined l.wires.items;
  come : AreHonest g.D.W.Wire.told g.D.W.Wire.is_joined l.initial.wires.items → NothingCame l.initial.passings → HaveCome l.first (l.first + 1) l.passings;
  carried : HaveReceivedAll g.D.W.Wire.told l.wires.items → NothingCame l.initial.passings → HaveCome l.first (l.first + 1) l.passings;
}
