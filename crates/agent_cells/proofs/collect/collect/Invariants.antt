use Rattle.std.proofs.Common.{◌≡◌, ◌≤◌, []}
use Rattle.std.specs.Vec.{vec_capacity}
use Rattle.dcop_base.specs.Limits.{amount_limit}
use Rattle.fifo_links.specs.Slots.{ring_slots}
use Rattle.agent_cells.specs.Links.{AreSameHeads}
use Rattle.agent_cells.proofs.CollectLaws.{IsCollecting}
use Rattle.agent_cells.proofs.collect.collect.Given as goal

abbrev pub invariant-loop-end : goal.invariant-loop-end
invariant-loop-end l = record {
  same : AreSameHeads l.initial.heads l.heads;
  collecting : IsCollecting l.end-index l.initial.heads l.heads l.taken.letters.items l.taken.takes.items l.taken.greatest;
  bounded : l.taken.greatest ≤ amount_limit;
  empty : l.found.items ≡ [];
  room : ring_slots ≤ vec_capacity l.found;
}
