use Rattle.std.proofs.Common.{Bool, false, ◌≤◌, ◌-◌, length}
use Rattle.agent_workers.specs.Turns.{AreTurning}
use Rattle.agent_workers.specs.Watched.{MarksWaiting, MarksKnowing}
use Rattle.agent_workers.proofs.TurnLaws.{IsPassing}
use Rattle.agent_workers.proofs.play.visit_waiting.Given as goal

abbrev pub invariant-loop-place : goal.invariant-loop-place
invariant-loop-place g l = AreTurning (λ b. (goal.Machine-dyn g (b.vtable, b.value)).meaning b.value) false l.from l.taken l.initial.cells l.cells × (l.from ≤ length l.initial.cells)
    × MarksWaiting (λ b. (goal.Machine-dyn g (b.vtable, b.value)).meaning b.value) l.watch.waits l.from l.initial.cells l.cells × ((alone : Bool) → IsPassing (λ b. (goal.Machine-dyn g (b.vtable, b.value)).meaning b.value) false alone l.initial.watch.waits l.watch.waits l.from l.initial.cells l.cells)
    × MarksKnowing (λ b. (goal.Machine-dyn g (b.vtable, b.value)).meaning b.value) l.watch.waits (length l.initial.cells) l.cells

abbrev pub decreases-loop-place : goal.decreases-loop-place
decreases-loop-place g l = length l.cells - l.from
