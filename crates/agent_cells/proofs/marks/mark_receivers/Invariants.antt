use Rattle.agent_cells.specs.Marked.{StayMarked}
use Rattle.agent_cells.proofs.MarkLaws.{HaveMarked}
use Rattle.agent_cells.proofs.marks.mark_receivers.Given as goal

abbrev pub invariant-loop-parcel : goal.invariant-loop-parcel
invariant-loop-parcel l = record {
  stay : StayMarked l.initial.marks l.marks;
  marked : HaveMarked l.parcel-index l.out l.marks;
}
