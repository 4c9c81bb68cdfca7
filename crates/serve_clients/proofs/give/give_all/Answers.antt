use Rattle.std.proofs.Common.{[], ◌∷◌, length, sym, ap, ◌∙◌, arith, length-append}
use Rattle.serve_clients.specs.Clients.{end_of}
use Rattle.serve_clients.proofs.ConnectionLaws.{all_behind_none}
use Rattle.serve_clients.proofs.ClientLaws.{counted, nothing_left, one_less, none_left}
use Rattle.serve_clients.proofs.give.give_all.Goals as goal

pub loop-peer-preserved : goal.loop-peer-preserved
loop-peer-preserved g c =
    let before = counted c.args.ends.now.items c.args.whole.now.looks.amount c.args.whole.now.looks.parts c.args.whole.now.misses.parts in
    let now = counted c.loop-peer.ends.items c.loop-peer.whole.looks.amount c.loop-peer.whole.looks.parts c.loop-peer.whole.misses.parts in
    let after = counted c.give_one.new.ends.items c.give_one.new.whole.looks.amount c.give_one.new.whole.looks.parts c.give_one.new.whole.misses.parts in
    let inv = c.loop-peer.invariant in
    let first = c.in-Some.ensures.items in
    let given = c.give_one.ensures in
    let one = ap length first in (
      one_less c.args.peers.items c.in-Some.peer c.loop-peer.rest.items c.pop_front.new.self.items (g.L.Listener.closed c.args.listener.now) (g.L.Listener.closed c.loop-peer.listener) (g.L.Listener.closed c.give_one.new.listener)
          before now after inv.0 first given.closed given.ends given.looks given.look_parts given.miss_parts,
      given.waiting ∙ inv.1,
      given.faults ∙ inv.2,
      omega (arith, inv.3, given.lent, one),
      omega (arith, inv.4, given.lent, one),
      omega (arith, inv.5, given.capacity, one, c.give_one.new.ends.ok.0, c.loop-peer.ends.ok.0, ap length given.ends, length-append c.loop-peer.ends.items (end_of c.in-Some.peer ∷ [])),
    )

pub returns-clause-closed : goal.returns-clause-closed
returns-clause-closed g c =
    let before = counted c.args.ends.now.items c.args.whole.now.looks.amount c.args.whole.now.looks.parts c.args.whole.now.misses.parts in
    let now = counted c.loop-peer.ends.items c.loop-peer.whole.looks.amount c.loop-peer.whole.looks.parts c.loop-peer.whole.misses.parts in
    let none = nothing_left c.loop-peer.rest.items (c.in_default.ensures.items ∙ c.in_default.ensures.rest) in
    let h = none_left c.args.peers.items c.loop-peer.rest.items (g.L.Listener.closed c.args.listener.now) (g.L.Listener.closed c.loop-peer.listener) before now c.loop-peer.invariant.0 none in
    sym (h.given ∙ all_behind_none (g.L.Listener.closed c.loop-peer.listener))
