use Rattle.std.proofs.Common.{◌≡◌, length}
use Rattle.std.specs.List.{All}
use Rattle.wire_pump.specs.Pump.{HaveAll}
use Rattle.tcp_links.specs.Plans.{AreNewWires}
use Rattle.tcp_links.proofs.plan.NodePlan.new.Given as goal

abbrev pub invariant-loop : goal.invariant-loop
invariant-loop g l = record {
  faults : g.D.Dialer.faults l.dialer ≡ g.D.Dialer.faults l.initial.dialer;
  count : length l.wires.items ≡ l.counter;
  new : AreNewWires g.W.Wire.told l.wires.items;
  dialer : g.D.Dialer.is_honest l.initial.dialer → g.D.Dialer.is_honest l.dialer;
  joined : g.D.Dialer.is_honest l.initial.dialer → All (λ pair. g.W.Wire.is_joined pair.0 pair.1) l.wires.items;
  all : g.D.Dialer.is_honest l.initial.dialer → All (λ pair. HaveAll (g.W.Wire.told pair.0) (g.W.Wire.told pair.1)) l.wires.items;
}
