use Rattle.worker_laws.specs.Cells.{peers}
use Rattle.agent_cells.specs.State.{state_of}
use Rattle.agent_workers.proofs.WatchLaws.{IsKeeping}
use Rattle.agent_workers.proofs.watch.Watch.keep.Given as goal

abbrev pub invariant-loop-place : goal.invariant-loop-place
invariant-loop-place g l = IsKeeping (peers (state_of (λ b. (goal.Machine-dyn g (b.vtable, b.value)).meaning b.value) l.cell).taken) l.place l.initial.self.waits l.initial.self.marks l.self.waits l.self.marks
