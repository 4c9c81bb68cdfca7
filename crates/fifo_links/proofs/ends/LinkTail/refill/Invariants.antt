use Rattle.std.proofs.Common.{◌≡◌, ◌+◌, ◌≤◌, [], length}
use Rattle.fifo_links.specs.Link.{sent_on, backlog_of, entered_by, room_of, SameTail}
use Rattle.fifo_links.proofs.ends.LinkTail.refill.Given as goal

abbrev pub invariant-loop-self : goal.invariant-loop-self
invariant-loop-self g l = record {
  end : SameTail l.initial.self l.self;
  sent : sent_on l.self ≡ sent_on l.initial.self;
  filled : room_of l.initial.self + length (entered_by l.initial.self) ≤ room_of l.self + length (entered_by l.self);
  kept : backlog_of l.initial.self ≡ [] → (backlog_of l.self ≡ []) × (room_of l.initial.self ≤ room_of l.self);
}

abbrev pub decreases-loop-self : goal.decreases-loop-self
decreases-loop-self g l = length (backlog_of l.self)
