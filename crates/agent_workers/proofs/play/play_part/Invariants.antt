use Rattle.agent_workers.specs.Turns.{AreSprinting}
use Rattle.agent_workers.proofs.TurnLaws.{TurnsSoFar}
use Rattle.agent_workers.proofs.play.play_part.Given as goal

abbrev pub invariant-loop-turn : goal.invariant-loop-turn
invariant-loop-turn g l = AreSprinting (λ b. (goal.Machine-dyn g (b.vtable, b.value)).meaning b.value) l.turn l.taken l.initial.cells l.cells × TurnsSoFar (λ b. (goal.Machine-dyn g (b.vtable, b.value)).meaning b.value) l.alone l.turn l.watch.waits l.initial.cells l.cells
