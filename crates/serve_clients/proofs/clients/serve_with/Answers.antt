use Rattle.std.proofs.Common.{◌++◌, List, Option, map, sym, ap, ◌∙◌, arith}
use Rattle.solve_serve.specs.declared.end.SessionEnd.{SessionEnd}
use Rattle.serve_clients.specs.Sessions.{all_before, all_behind}
use Rattle.serve_clients.specs.Clients.{connection, end_of}
use Rattle.serve_clients.proofs.ConnectionLaws.{none_returned}
use Rattle.serve_clients.proofs.ClientLaws.{fresh_peers}
use Rattle.serve_clients.proofs.SessionLaws.{look_parts_back, miss_parts_back, have_served}
use Rattle.serve_clients.proofs.clients.serve_with.Goals as goal

pub serve_peers-requires-clause-fresh : goal.serve_peers-requires-clause-fresh
serve_peers-requires-clause-fresh g c κs within = fresh_peers g.M.Maker.calls c.in_ok-peers.peers.items c.in_ok-peers.ensures.new

pub counted-looks-requires-after_bounds : goal.counted-looks-requires-after_bounds
counted-looks-requires-after_bounds g c κs within =
    let ps = c.in_ok-peers.peers.items in
    let qs = c.serve_peers.new.peers.items in
    let count = c.in_ok-peers.ensures.count in
    let looks = look_parts_back g.L.S.Source.left g.L.S.Source.faults g.L.K.Sink.held g.L.K.Sink.faults g.M.Maker.calls g.M.Maker.does g.M.Maker.is_reply ps qs c.in_ok-peers.ensures.new c.serve_peers.ensures.served in
    let misses = miss_parts_back g.L.S.Source.left g.L.S.Source.faults g.L.K.Sink.held g.L.K.Sink.faults g.M.Maker.calls g.M.Maker.does g.M.Maker.is_reply ps qs c.in_ok-peers.ensures.new c.serve_peers.ensures.served in (
      omega (arith, c.give_all.ensures.look_parts, c.in_ok-peers.ensures.looks.0, looks, count, c.requires.looks.1, c.requires.looks.2),
      omega (arith, c.give_all.ensures.miss_parts, c.in_ok-peers.ensures.misses.0, misses, count, c.requires.misses.1, c.requires.misses.2),
    )

pub returns-clause-served : goal.returns-clause-served
returns-clause-served g c =
    let ps = c.in_ok-peers.peers.items in
    let qs = c.serve_peers.new.peers.items in
    let given = c.give_all.ensures in
    have_served g.L.S.Source.left g.L.S.Source.faults g.L.K.Sink.held g.L.K.Sink.faults g.M.Maker.calls g.M.Maker.does g.M.Maker.is_reply c.args.plan.clients ps qs c.give_all.new.ends.items c.counted-looks.result
    (g.L.Listener.waiting c.args.listener.now) (g.L.Listener.waiting c.give_all.new.listener) (g.L.Listener.closed c.args.listener.now) (g.L.Listener.closed c.give_all.new.listener)
    c.in_ok-peers.ensures.count c.in_ok-peers.ensures.new c.serve_peers.ensures.served
    (c.in_ok-peers.ensures.waiting ∙ ap (λ (w : Option (List (g.row.L-S.Denot × g.row.L-K.Denot))). all_before (map (λ p. connection p) ps) w) (sym given.waiting))
    (given.closed ∙ ap (λ (w : Option (List (g.row.L-S.Denot × g.row.L-K.Denot))). all_behind w (map (λ q. connection q) qs)) c.in_ok-peers.ensures.closed)
    (given.ends ∙ ap (λ (es : List SessionEnd). es ++ map (λ q. end_of q) qs) c.in_ok-ends.ensures.items)
    (omega (arith, c.counted-looks.ensures, given.looks, c.in_ok-peers.ensures.looks.1))

pub returns-in_err-cache-clause-returned : goal.returns-in_err-cache-clause-returned
returns-in_err-cache-clause-returned g c = none_returned c.from_residual.result (g.L.Listener.waiting c.args.listener.now) (g.L.Listener.closed c.args.listener.now)
