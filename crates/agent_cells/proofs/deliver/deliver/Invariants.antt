use Rattle.std.specs.List.Sorted.{IsStrictlyIncreasing}
use Rattle.worker_laws.specs.Cells.{peers}
use Rattle.agent_cells.specs.Links.{lanes_sent, AreSameTails}
use Rattle.agent_cells.specs.Delivered.{HasDelivered}
use Rattle.agent_cells.proofs.deliver.deliver.Given as goal

abbrev pub invariant-loop-parcel : goal.invariant-loop-parcel
invariant-loop-parcel l = record {
  same : AreSameTails l.initial.tails l.tails;
  sent : HasDelivered l.initial.tails l.stamp l.yielded l.tails;
  ascend : IsStrictlyIncreasing (peers (lanes_sent l.tails));
}
