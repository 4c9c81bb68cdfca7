use Rattle.std.proofs.Common.{◌-◌, length}
use Rattle.fifo_links.specs.Link.{taken_from, SameHead}
use Rattle.worker_laws.specs.Cells.{lane}
use Rattle.agent_cells.specs.Settled.{TailJoins}
use Rattle.agent_cells.specs.State.{state_of, tails_in, IsCell}
use Rattle.agent_workers.specs.Settled.{StaysQuiet}
use Rattle.tcp_links.specs.Drains.{HasDrained}
use Rattle.tcp_links.proofs.drain.drain_link.Given as goal

abbrev pub invariant-loop-alloc : goal.invariant-loop-alloc
invariant-loop-alloc g l = record {
  cell : IsCell (λ b. (goal.Machine-dyn g (b.vtable, b.value)).meaning b.value) l.cell;
  quiet : StaysQuiet (λ b. (goal.Machine-dyn g (b.vtable, b.value)).meaning b.value) l.initial.cell l.cell;
  joined : TailJoins (tails_in l.cell) l.to l.inner;
  end : SameHead l.initial.inner l.inner;
  drained : HasDrained l.initial.inner l.initial.drained.items l.inner l.drained.items;
}

abbrev pub decreases-loop-alloc : goal.decreases-loop-alloc
decreases-loop-alloc g l = length (lane l.to (state_of (λ b. (goal.Machine-dyn g (b.vtable, b.value)).meaning b.value) l.initial.cell).sent) - length (taken_from l.inner)
