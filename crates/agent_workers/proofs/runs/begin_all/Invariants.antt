use Rattle.agent_workers.specs.Run.{AreStarting}
use Rattle.agent_workers.proofs.runs.begin_all.Given as goal

abbrev pub invariant-loop-cell : goal.invariant-loop-cell
invariant-loop-cell g l = AreStarting (λ b. (goal.Machine-dyn g (b.vtable, b.value)).meaning b.value) l.cell-index l.initial.cells l.cells
