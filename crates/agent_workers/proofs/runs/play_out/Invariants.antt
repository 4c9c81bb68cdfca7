use Rattle.std.proofs.Common.{◌≡◌, ◌≤◌, ◌<◌, None, false}
use Rattle.agent_cells.specs.State.{fault_in}
use Rattle.worker_laws.specs.CellRounds.{total}
use Rattle.worker_laws.specs.CellRuns.{all_ended}
use Rattle.agent_workers.specs.Joined.{states_of, EachIs, EachBecomes, HasBegun, IsSameCell, AreCellsJoined}
use Rattle.agent_workers.proofs.RunLaws.{PlayedSoFar}
use Rattle.agent_workers.proofs.runs.play_out.Given as goal

abbrev pub invariant-loop : goal.invariant-loop
invariant-loop g l = record {
  joined : AreCellsJoined (λ b. (goal.Machine-dyn g (b.vtable, b.value)).meaning b.value) 1 l.cells;
  begun : EachIs (λ c. HasBegun (λ b. (goal.Machine-dyn g (b.vtable, b.value)).meaning b.value) c) l.cells;
  same : EachBecomes (λ a b. IsSameCell a b) l.initial.cells l.cells;
  fine : EachIs (λ c. fault_in c ≡ None) l.cells;
  so_far : PlayedSoFar (λ b. (goal.Machine-dyn g (b.vtable, b.value)).meaning b.value) l.workers l.budget l.initial.cells l.cells;
  deliveries : l.deliveries ≡ total (states_of (λ b. (goal.Machine-dyn g (b.vtable, b.value)).meaning b.value) l.cells);
  progress : l.counter ≤ l.deliveries;
  within : l.counter < l.budget → l.deliveries < l.budget;
  awake : all_ended (states_of (λ b. (goal.Machine-dyn g (b.vtable, b.value)).meaning b.value) l.cells) ≡ false;
}
