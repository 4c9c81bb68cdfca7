use Rattle.std.proofs.Common.{◌≡◌, ◌≤◌, ◌+◌, length, vec_capacity}
use Rattle.serve_clients.proofs.ClientLaws.{HaveCome}
use Rattle.serve_clients.proofs.accept.accept_all.Given as goal

abbrev pub invariant-loop : goal.invariant-loop
invariant-loop g l =
    HaveCome g.M.Maker.calls l.peers.items
    (record { faults = g.L.Listener.faults l.fn.listener; waiting = g.L.Listener.waiting l.fn.listener; closed = g.L.Listener.closed l.fn.listener; lent = g.L.Listener.lent l.fn.listener })
    (record { faults = g.L.Listener.faults l.listener; waiting = g.L.Listener.waiting l.listener; closed = g.L.Listener.closed l.listener; lent = g.L.Listener.lent l.listener })
    × (length l.peers.items ≡ l.counter) × (l.clients ≤ vec_capacity l.peers)
    × (l.whole.looks.parts + l.counter ≡ l.clients) × (l.whole.looks.amount ≡ 0)
    × (l.whole.misses.parts + l.counter ≡ l.clients) × (l.whole.misses.amount ≡ 0)
