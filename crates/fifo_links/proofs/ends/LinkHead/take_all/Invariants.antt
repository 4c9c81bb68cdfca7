use Rattle.std.proofs.Common.{◌≡◌, ◌+◌, ◌≤◌, ◌-◌}
use Rattle.std.specs.Vec.{vec_len, vec_capacity}
use Rattle.fifo_links.specs.Slots.{ring_slots}
use Rattle.fifo_links.specs.Link.{SameHead}
use Rattle.fifo_links.proofs.TakingLaws.{IsTaking}
use Rattle.fifo_links.proofs.ends.LinkHead.take_all.Given as goal

abbrev pub invariant-loop : goal.invariant-loop
invariant-loop g l =
    (l.count ≡ l.counter)
    × (l.counter ≤ ring_slots)
    × SameHead l.initial.self l.self
    × (vec_len l.into + (ring_slots - l.counter) ≤ vec_capacity l.into)
    × (vec_capacity l.into ≡ vec_capacity l.initial.into)
    × IsTaking l.initial.self l.initial.into.items l.count l.self l.into.items
