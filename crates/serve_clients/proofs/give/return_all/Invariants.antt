use Rattle.std.proofs.Common.{◌≡◌, ◌≤◌, ◌+◌, map, length}
use Rattle.serve_clients.specs.Sessions.{all_behind}
use Rattle.serve_clients.specs.Clients.{connection}
use Rattle.serve_clients.proofs.give.return_all.Given as goal

abbrev pub invariant-loop-peer : goal.invariant-loop-peer
invariant-loop-peer g l =
    (all_behind (g.L.Listener.closed l.fn.listener) (map (λ p. connection p) l.fn.peers.items) ≡ all_behind (g.L.Listener.closed l.listener) (map (λ p. connection p) l.rest.items))
    × (g.L.Listener.waiting l.listener ≡ g.L.Listener.waiting l.fn.listener) × (g.L.Listener.faults l.listener ≡ g.L.Listener.faults l.fn.listener)
    × (length l.rest.items ≤ g.L.Listener.lent l.listener) × (g.L.Listener.lent l.listener + length l.fn.peers.items ≡ g.L.Listener.lent l.fn.listener + length l.rest.items)

abbrev pub decreases-loop-peer : goal.decreases-loop-peer
decreases-loop-peer g l = length l.rest.items
