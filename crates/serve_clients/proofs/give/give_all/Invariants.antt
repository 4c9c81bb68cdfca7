use Rattle.std.proofs.Common.{◌≡◌, ◌≤◌, ◌+◌, length, vec_len, vec_capacity}
use Rattle.serve_clients.proofs.ClientLaws.{AreLeft}
use Rattle.serve_clients.proofs.give.give_all.Given as goal

abbrev pub invariant-loop-peer : goal.invariant-loop-peer
invariant-loop-peer g l =
    AreLeft l.fn.peers.items l.rest.items (g.L.Listener.closed l.fn.listener) (g.L.Listener.closed l.listener)
    (record { ends = l.fn.ends.items; looks = l.fn.whole.looks.amount; look_parts = l.fn.whole.looks.parts; miss_parts = l.fn.whole.misses.parts })
    (record { ends = l.ends.items; looks = l.whole.looks.amount; look_parts = l.whole.looks.parts; miss_parts = l.whole.misses.parts })
    × (g.L.Listener.waiting l.listener ≡ g.L.Listener.waiting l.fn.listener) × (g.L.Listener.faults l.listener ≡ g.L.Listener.faults l.fn.listener)
    × (length l.rest.items ≤ g.L.Listener.lent l.listener) × (g.L.Listener.lent l.listener + length l.fn.peers.items ≡ g.L.Listener.lent l.fn.listener + length l.rest.items)
    × (vec_len l.ends + length l.rest.items ≤ vec_capacity l.ends)

abbrev pub decreases-loop-peer : goal.decreases-loop-peer
decreases-loop-peer g l = length l.rest.items
