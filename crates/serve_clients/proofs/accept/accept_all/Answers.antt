use Rattle.std.proofs.Common.{[], ◌∷◌, length, ap, arith, length-append}
use Rattle.serve_clients.proofs.ConnectionLaws.{none_returned}
use Rattle.serve_clients.proofs.ClientLaws.{standing, one_came}
use Rattle.serve_clients.proofs.accept.accept_all.Goals as goal

pub loop-preserved : goal.loop-preserved
loop-preserved g c =
    let before = standing (g.L.Listener.faults c.args.listener.now) (g.L.Listener.waiting c.args.listener.now) (g.L.Listener.closed c.args.listener.now) (g.L.Listener.lent c.args.listener.now) in
    let now = standing (g.L.Listener.faults c.loop.listener) (g.L.Listener.waiting c.loop.listener) (g.L.Listener.closed c.loop.listener) (g.L.Listener.lent c.loop.listener) in
    let after = standing (g.L.Listener.faults c.accept_one.new.listener) (g.L.Listener.waiting c.accept_one.new.listener) (g.L.Listener.closed c.accept_one.new.listener) (g.L.Listener.lent c.accept_one.new.listener) in
    let inv = c.loop.invariant in
    let pushed = c.push_reserved.ensures.items in (
      rw pushed (one_came g.M.Maker.calls c.loop.peers.items c.in-Ok.peer before now after inv.0 c.in-Ok.ensures.new c.in-Ok.ensures.cause c.in-Ok.ensures.waiting c.accept_one.ensures.closed c.in-Ok.ensures.lent),
      omega (arith, ap length pushed, length-append c.loop.peers.items (c.in-Ok.peer ∷ []), inv.1),
      omega (arith, inv.2, c.push_reserved.ensures.capacity),
      omega (arith, inv.3, c.in-Ok.ensures.looks.0),
      c.in-Ok.ensures.looks.1,
      omega (arith, inv.5, c.in-Ok.ensures.misses.0),
      c.in-Ok.ensures.misses.1,
    )

pub returns-in_err-peers-clause-returned : goal.returns-in_err-peers-clause-returned
returns-in_err-peers-clause-returned g c = none_returned c.from_residual.result (g.L.Listener.waiting c.args.listener.now) (g.L.Listener.closed c.args.listener.now)
