use Rattle.std.proofs.Common.{◌≡◌, ◌≤◌, ◌<◌, None, false, length}
use Rattle.worker_laws.specs.CellRounds.{total}
use Rattle.worker_laws.specs.CellRuns.{all_ended}
use Rattle.worker_laws.specs.OneNode.{home}
use Rattle.worker_laws.specs.Wires.{HaveHeld}
use Rattle.agent_cells.specs.State.{fault_in}
use Rattle.agent_workers.specs.Joined.{states_of, EachIs, EachBecomes, HasBegun, IsSameCell, AreCellsJoined}
use Rattle.agent_workers.specs.Run.{AreBusy}
use Rattle.node_exchange.specs.Honest.{HaveReceivedAll}
use Rattle.node_exchange.specs.Turned.{AreTurned}
use Rattle.tcp_links.specs.Left.{KeepsPlan}
use Rattle.tcp_links.specs.Plans.{IsHonest}
use Rattle.tcp_links.specs.Over.{IsPlanOver, ArePlayedSo}
use Rattle.tcp_links.proofs.SharedLaws.{SharedSoFar}
use Rattle.tcp_links.proofs.CarriedLaws.{WholeOf}
use Rattle.tcp_links.proofs.over.play_over.Given as goal

abbrev pub invariant-loop-round : goal.invariant-loop-round
invariant-loop-round g l = record {
  shared : SharedSoFar (λ b. (goal.Machine-dyn g (b.vtable, b.value)).meaning b.value) l.workers l.initial.plan.nodes l.initial.cells l.cells;
  size : length l.cells ≡ length l.initial.cells;
  same : EachBecomes IsSameCell l.initial.cells l.cells;
  keeps : KeepsPlan l.initial.plan l.plan;
  wires : AreTurned g.D.W.Wire.told g.D.W.Wire.is_joined 0 l.initial.plan.wires.items l.plan.wires.items;
  letters : WholeOf g.D.W.Wire.told g.D.W.Wire.is_joined l.initial.plan l.plan;
  joined : AreCellsJoined (λ b. (goal.Machine-dyn g (b.vtable, b.value)).meaning b.value) l.initial.plan.nodes l.cells;
  begun : EachIs (λ c. HasBegun (λ b. (goal.Machine-dyn g (b.vtable, b.value)).meaning b.value) c) l.cells;
  fine : EachIs (λ c. fault_in c ≡ None) l.cells;
  over : IsPlanOver (λ b. (goal.Machine-dyn g (b.vtable, b.value)).meaning b.value) l.initial.plan l.plan l.cells;
  played : ArePlayedSo (home l.initial.plan.nodes l.initial.plan.agents) l.budget AreBusy l.round l.initial.plan.kept.items (states_of (λ b. (goal.Machine-dyn g (b.vtable, b.value)).meaning b.value) l.initial.cells) l.plan.kept.items (states_of (λ b. (goal.Machine-dyn g (b.vtable, b.value)).meaning b.value) l.cells);
  deliveries : l.deliveries ≡ total (states_of (λ b. (goal.Machine-dyn g (b.vtable, b.value)).meaning b.value) l.cells);
  progress : l.round ≤ l.deliveries;
  most : l.round ≤ l.budget;
  within : l.round < l.budget → l.deliveries < l.budget;
  awake : all_ended (states_of (λ b. (goal.Machine-dyn g (b.vtable, b.value)).meaning b.value) l.cells) ≡ false;
  faults : g.D.Dialer.faults l.dialer ≡ g.D.Dialer.faults l.initial.dialer;
  dialer : g.D.Dialer.is_honest l.initial.dialer → g.D.Dialer.is_honest l.dialer;
  honest : IsHonest g.D.W.Wire.told g.D.W.Wire.is_joined l.initial.plan → HaveHeld l.initial.plan.kept.items → IsHonest g.D.W.Wire.told g.D.W.Wire.is_joined l.plan;
  held : IsHonest g.D.W.Wire.told g.D.W.Wire.is_joined l.initial.plan → HaveHeld l.initial.plan.kept.items → HaveHeld l.plan.kept.items;
  carried : HaveReceivedAll g.D.W.Wire.told l.plan.wires.items → HaveHeld l.initial.plan.kept.items → HaveHeld l.plan.kept.items;
}
