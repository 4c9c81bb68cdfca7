use Rattle.std.proofs.Common.{true}
use Rattle.agent_workers.specs.Turns.{AreTurning}
use Rattle.agent_workers.specs.Watched.{MarksWaiting, MarksKnowing}
use Rattle.agent_workers.proofs.TurnLaws.{IsPassing}
use Rattle.agent_workers.proofs.play.visit_all.Given as goal

abbrev pub invariant-loop-place : goal.invariant-loop-place
invariant-loop-place g l = AreTurning (λ b. (goal.Machine-dyn g (b.vtable, b.value)).meaning b.value) true l.place l.taken l.initial.cells l.cells × MarksWaiting (λ b. (goal.Machine-dyn g (b.vtable, b.value)).meaning b.value) l.watch.waits l.place l.initial.cells l.cells
    × IsPassing (λ b. (goal.Machine-dyn g (b.vtable, b.value)).meaning b.value) true l.settled l.initial.watch.waits l.watch.waits l.place l.initial.cells l.cells × MarksKnowing (λ b. (goal.Machine-dyn g (b.vtable, b.value)).meaning b.value) l.watch.waits l.place l.cells
