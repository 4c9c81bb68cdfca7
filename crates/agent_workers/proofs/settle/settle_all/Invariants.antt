use Rattle.std.proofs.Common.{length}
use Rattle.worker_laws.specs.OneNode.{home as home_of}
use Rattle.agent_workers.specs.Settled.{HaveSettled}
use Rattle.agent_workers.proofs.settle.settle_all.Given as goal

abbrev pub invariant-loop-to : goal.invariant-loop-to
invariant-loop-to g l = HaveSettled (λ b. (goal.Machine-dyn g (b.vtable, b.value)).meaning b.value) (home_of l.nodes (length l.initial.cells)) l.to l.initial.cells l.cells
