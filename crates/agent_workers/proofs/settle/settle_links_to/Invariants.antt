use Rattle.std.proofs.Common.{length}
use Rattle.worker_laws.specs.OneNode.{home as home_of}
use Rattle.agent_workers.specs.Settled.{HasSettledTo}
use Rattle.agent_workers.proofs.settle.settle_links_to.Given as goal

abbrev pub invariant-loop-place : goal.invariant-loop-place
invariant-loop-place g l = HasSettledTo (λ b. (goal.Machine-dyn g (b.vtable, b.value)).meaning b.value) (home_of l.nodes (length l.initial.cells)) l.to l.place l.initial.cells l.cells
