use Rattle.std.proofs.Common.{map, length, sym, ap, ◌∙◌, arith}
use Rattle.serve_clients.specs.Sessions.{all_behind}
use Rattle.serve_clients.specs.Clients.{connection}
use Rattle.serve_clients.proofs.ConnectionLaws.{all_behind_none}
use Rattle.serve_clients.proofs.ClientLaws.{nothing_left, one_back}
use Rattle.serve_clients.proofs.give.return_all.Goals as goal

pub loop-peer-preserved : goal.loop-peer-preserved
loop-peer-preserved g c =
    let inv = c.loop-peer.invariant in
    let first = c.in-Some.ensures.items in
    let given = c.return_one.ensures in
    let one = ap length first in (
      one_back (all_behind (g.L.Listener.closed c.args.listener.now) (map (λ p. connection p) c.args.peers.items)) c.in-Some.peer c.loop-peer.rest.items c.pop_front.new.self.items (g.L.Listener.closed c.loop-peer.listener) (g.L.Listener.closed c.return_one.new.listener) inv.0 first given.closed,
      given.waiting ∙ inv.1,
      given.faults ∙ inv.2,
      omega (arith, inv.3, given.lent, one),
      omega (arith, inv.4, given.lent, one),
    )

pub returns-clause-closed : goal.returns-clause-closed
returns-clause-closed g c =
    let inv = c.loop-peer.invariant in
    let none = nothing_left c.loop-peer.rest.items (c.in_default.ensures.items ∙ c.in_default.ensures.rest) in
    sym (inv.0 ∙ ap (λ ps. all_behind (g.L.Listener.closed c.loop-peer.listener) (map (λ p. connection p) ps)) none ∙ all_behind_none (g.L.Listener.closed c.loop-peer.listener))
