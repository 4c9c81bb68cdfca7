use Rattle.std.proofs.Common.{◌≡◌, ◌<◌, ℕ, List, [], ◌∷◌, length, sym, ap, subst, ◌∙◌, arith, rules}
use Rattle.std.specs.List.{All}
use Rattle.std.proofs.lemmas.List.{length-append}
use Rattle.std.proofs.lemmas.Iterator.{YieldsList-from_zip}
use Rattle.std.proofs.lemmas.Iterator.Adapters.{YieldsList-from_vec}
use Rattle.std.proofs.lemmas.Iterator.Consumers.{YieldsList-at, YieldsList-turn, YieldsList-end}
use Rattle.dcop_base.specs.declared.knowledge.Private.{Private}
use Rattle.worker_laws.specs.Cells.{Lane, peers}
use Rattle.agent_cells.specs.Links.{Tail, Head, lanes_sent, lanes_taken}
use Rattle.agent_links.specs.Links.{rows_in}
use Rattle.agent_links.specs.Seats.{all_neighbours}
use Rattle.agent_links.proofs.SeatLaws.{lists_size, list_at, seats_more, knows_neighbours, known_own, own_me, turn_is, all_seated}
use Rattle.agent_links.proofs.seats.seat_each.Goals as goal

pub seat_for-requires-clause-inside : goal.seat_for-requires-clause-inside
seat_for-requires-clause-inside c =
    let me : ℕ = length c.loop-own.yielded in
    let p = c.args.problem.now in
    let road = YieldsList-at c.into_iter-own-iterator.ensures.into_iter_gives (YieldsList-from_zip
    (YieldsList-at c.zip-own-items.ensures.first (YieldsList-from_vec {s = c.into_iter.result} c.args.known.items c.into_iter.ensures.rest (search rules)))
    (YieldsList-at c.zip-own-items.ensures.second (YieldsList-from_zip
    (YieldsList-at c.zip.ensures.first (YieldsList-from_vec {s = c.into_iter-2.result} c.args.links.tails.items c.into_iter-2.ensures.rest (search rules)))
    (YieldsList-from_vec {s = c.zip.result.b} c.args.links.heads.items c.zip.ensures.second.0 (search rules))))) in
    let turn = turn_is p c.args.start.now c.args.known.items c.args.links.tails.items c.args.links.heads.items me (c.in-Some.own, (c.in-Some.own_tails, c.in-Some.own_heads)) c.requires.known c.requires.ends
    (YieldsList-turn road c.loop-own.yielded c.loop-own.own-iterator c.loop-own.yielded_by c.next.result c.next.new.self (c.in-Some.own, (c.in-Some.own_tails, c.in-Some.own_heads)) c.in-Some.is c.next.ensures.steps) in
    let lt : me < length p.sizes = turn.0 in
    let own = own_me p c.args.start.now me c.in-Some.own turn.1 in
    omega (arith, lt, own)

pub seat_for-requires-clause-known : goal.seat_for-requires-clause-known
seat_for-requires-clause-known c =
    let me : ℕ = length c.loop-own.yielded in
    let p = c.args.problem.now in
    let road = YieldsList-at c.into_iter-own-iterator.ensures.into_iter_gives (YieldsList-from_zip
    (YieldsList-at c.zip-own-items.ensures.first (YieldsList-from_vec {s = c.into_iter.result} c.args.known.items c.into_iter.ensures.rest (search rules)))
    (YieldsList-at c.zip-own-items.ensures.second (YieldsList-from_zip
    (YieldsList-at c.zip.ensures.first (YieldsList-from_vec {s = c.into_iter-2.result} c.args.links.tails.items c.into_iter-2.ensures.rest (search rules)))
    (YieldsList-from_vec {s = c.zip.result.b} c.args.links.heads.items c.zip.ensures.second.0 (search rules))))) in
    let turn = turn_is p c.args.start.now c.args.known.items c.args.links.tails.items c.args.links.heads.items me (c.in-Some.own, (c.in-Some.own_tails, c.in-Some.own_heads)) c.requires.known c.requires.ends
    (YieldsList-turn road c.loop-own.yielded c.loop-own.own-iterator c.loop-own.yielded_by c.next.result c.next.new.self (c.in-Some.own, (c.in-Some.own_tails, c.in-Some.own_heads)) c.in-Some.is c.next.ensures.steps) in
    known_own p c.args.start.now me c.in-Some.own turn.1

pub seat_for-requires-clause-tail_peers : goal.seat_for-requires-clause-tail_peers
seat_for-requires-clause-tail_peers c =
    let me : ℕ = length c.loop-own.yielded in
    let p = c.args.problem.now in
    let road = YieldsList-at c.into_iter-own-iterator.ensures.into_iter_gives (YieldsList-from_zip
    (YieldsList-at c.zip-own-items.ensures.first (YieldsList-from_vec {s = c.into_iter.result} c.args.known.items c.into_iter.ensures.rest (search rules)))
    (YieldsList-at c.zip-own-items.ensures.second (YieldsList-from_zip
    (YieldsList-at c.zip.ensures.first (YieldsList-from_vec {s = c.into_iter-2.result} c.args.links.tails.items c.into_iter-2.ensures.rest (search rules)))
    (YieldsList-from_vec {s = c.zip.result.b} c.args.links.heads.items c.zip.ensures.second.0 (search rules))))) in
    let turn = turn_is p c.args.start.now c.args.known.items c.args.links.tails.items c.args.links.heads.items me (c.in-Some.own, (c.in-Some.own_tails, c.in-Some.own_heads)) c.requires.known c.requires.ends
    (YieldsList-turn road c.loop-own.yielded c.loop-own.own-iterator c.loop-own.yielded_by c.next.result c.next.new.self (c.in-Some.own, (c.in-Some.own_tails, c.in-Some.own_heads)) c.in-Some.is c.next.ensures.steps) in
    let lt : me < length p.sizes = turn.0 in
    let size = lists_size p in
    let in_lists : me < length (all_neighbours p) = omega (arith, lt, size) in
    ap (λ (xs : List Tail). peers (lanes_sent xs)) turn.2 ∙ c.requires.ends.tail_peers me in_lists ∙ list_at p me lt ∙ sym (ap (λ (o : Private). o.neighbours) turn.1 ∙ knows_neighbours p c.args.start.now me)

pub seat_for-requires-clause-head_peers : goal.seat_for-requires-clause-head_peers
seat_for-requires-clause-head_peers c =
    let me : ℕ = length c.loop-own.yielded in
    let p = c.args.problem.now in
    let road = YieldsList-at c.into_iter-own-iterator.ensures.into_iter_gives (YieldsList-from_zip
    (YieldsList-at c.zip-own-items.ensures.first (YieldsList-from_vec {s = c.into_iter.result} c.args.known.items c.into_iter.ensures.rest (search rules)))
    (YieldsList-at c.zip-own-items.ensures.second (YieldsList-from_zip
    (YieldsList-at c.zip.ensures.first (YieldsList-from_vec {s = c.into_iter-2.result} c.args.links.tails.items c.into_iter-2.ensures.rest (search rules)))
    (YieldsList-from_vec {s = c.zip.result.b} c.args.links.heads.items c.zip.ensures.second.0 (search rules))))) in
    let turn = turn_is p c.args.start.now c.args.known.items c.args.links.tails.items c.args.links.heads.items me (c.in-Some.own, (c.in-Some.own_tails, c.in-Some.own_heads)) c.requires.known c.requires.ends
    (YieldsList-turn road c.loop-own.yielded c.loop-own.own-iterator c.loop-own.yielded_by c.next.result c.next.new.self (c.in-Some.own, (c.in-Some.own_tails, c.in-Some.own_heads)) c.in-Some.is c.next.ensures.steps) in
    let lt : me < length p.sizes = turn.0 in
    let size = lists_size p in
    let in_lists : me < length (all_neighbours p) = omega (arith, lt, size) in
    ap (λ (xs : List Head). peers (lanes_taken xs)) turn.3 ∙ c.requires.ends.head_peers me in_lists ∙ list_at p me lt ∙ sym (ap (λ (o : Private). o.neighbours) turn.1 ∙ knows_neighbours p c.args.start.now me)

pub seat_for-requires-clause-unsent : goal.seat_for-requires-clause-unsent
seat_for-requires-clause-unsent c =
    let me : ℕ = length c.loop-own.yielded in
    let p = c.args.problem.now in
    let road = YieldsList-at c.into_iter-own-iterator.ensures.into_iter_gives (YieldsList-from_zip
    (YieldsList-at c.zip-own-items.ensures.first (YieldsList-from_vec {s = c.into_iter.result} c.args.known.items c.into_iter.ensures.rest (search rules)))
    (YieldsList-at c.zip-own-items.ensures.second (YieldsList-from_zip
    (YieldsList-at c.zip.ensures.first (YieldsList-from_vec {s = c.into_iter-2.result} c.args.links.tails.items c.into_iter-2.ensures.rest (search rules)))
    (YieldsList-from_vec {s = c.zip.result.b} c.args.links.heads.items c.zip.ensures.second.0 (search rules))))) in
    let turn = turn_is p c.args.start.now c.args.known.items c.args.links.tails.items c.args.links.heads.items me (c.in-Some.own, (c.in-Some.own_tails, c.in-Some.own_heads)) c.requires.known c.requires.ends
    (YieldsList-turn road c.loop-own.yielded c.loop-own.own-iterator c.loop-own.yielded_by c.next.result c.next.new.self (c.in-Some.own, (c.in-Some.own_tails, c.in-Some.own_heads)) c.in-Some.is c.next.ensures.steps) in
    let lt : me < length p.sizes = turn.0 in
    let size = lists_size p in
    let in_lists : me < length (all_neighbours p) = omega (arith, lt, size) in
    subst (λ (xs : List Tail). All (λ (l : Lane). l.messages ≡ []) (lanes_sent xs)) (sym turn.2) (c.requires.ends.unsent me in_lists)

pub seat_for-requires-clause-untaken : goal.seat_for-requires-clause-untaken
seat_for-requires-clause-untaken c =
    let me : ℕ = length c.loop-own.yielded in
    let p = c.args.problem.now in
    let road = YieldsList-at c.into_iter-own-iterator.ensures.into_iter_gives (YieldsList-from_zip
    (YieldsList-at c.zip-own-items.ensures.first (YieldsList-from_vec {s = c.into_iter.result} c.args.known.items c.into_iter.ensures.rest (search rules)))
    (YieldsList-at c.zip-own-items.ensures.second (YieldsList-from_zip
    (YieldsList-at c.zip.ensures.first (YieldsList-from_vec {s = c.into_iter-2.result} c.args.links.tails.items c.into_iter-2.ensures.rest (search rules)))
    (YieldsList-from_vec {s = c.zip.result.b} c.args.links.heads.items c.zip.ensures.second.0 (search rules))))) in
    let turn = turn_is p c.args.start.now c.args.known.items c.args.links.tails.items c.args.links.heads.items me (c.in-Some.own, (c.in-Some.own_tails, c.in-Some.own_heads)) c.requires.known c.requires.ends
    (YieldsList-turn road c.loop-own.yielded c.loop-own.own-iterator c.loop-own.yielded_by c.next.result c.next.new.self (c.in-Some.own, (c.in-Some.own_tails, c.in-Some.own_heads)) c.in-Some.is c.next.ensures.steps) in
    let lt : me < length p.sizes = turn.0 in
    let size = lists_size p in
    let in_lists : me < length (all_neighbours p) = omega (arith, lt, size) in
    subst (λ (xs : List Head). All (λ (l : Lane). l.messages ≡ []) (lanes_taken xs)) (sym turn.3) (c.requires.ends.untaken me in_lists)

pub loop-own-preserved : goal.loop-own-preserved
loop-own-preserved c =
    let me : ℕ = length c.loop-own.yielded in
    let p = c.args.problem.now in
    let road = YieldsList-at c.into_iter-own-iterator.ensures.into_iter_gives (YieldsList-from_zip
    (YieldsList-at c.zip-own-items.ensures.first (YieldsList-from_vec {s = c.into_iter.result} c.args.known.items c.into_iter.ensures.rest (search rules)))
    (YieldsList-at c.zip-own-items.ensures.second (YieldsList-from_zip
    (YieldsList-at c.zip.ensures.first (YieldsList-from_vec {s = c.into_iter-2.result} c.args.links.tails.items c.into_iter-2.ensures.rest (search rules)))
    (YieldsList-from_vec {s = c.zip.result.b} c.args.links.heads.items c.zip.ensures.second.0 (search rules))))) in
    let turn = turn_is p c.args.start.now c.args.known.items c.args.links.tails.items c.args.links.heads.items me (c.in-Some.own, (c.in-Some.own_tails, c.in-Some.own_heads)) c.requires.known c.requires.ends
    (YieldsList-turn road c.loop-own.yielded c.loop-own.own-iterator c.loop-own.yielded_by c.next.result c.next.new.self (c.in-Some.own, (c.in-Some.own_tails, c.in-Some.own_heads)) c.in-Some.is c.next.ensures.steps) in
    let before = c.loop-own.invariant in
    let count = before.size in
    let pushed = c.in_ok-push.ensures.items in
    let longer = length-append c.loop-own.seats.items (c.in_ok-seat_for.field-0 ∷ []) in
    let more = length-append c.loop-own.yielded ((c.in-Some.own, (c.in-Some.own_tails, c.in-Some.own_heads)) ∷ []) in
    record {
      size = ap (λ xs. length xs) pushed ∙ omega (arith, longer, more, count);
      each = seats_more p c.args.start.now (rows_in c.args.links.tails.items) (rows_in c.args.links.heads.items) c.loop-own.seats.items c.push.new.self.items c.in_ok-seat_for.field-0 c.in-Some.own me
          c.in-Some.own_tails.items c.in-Some.own_heads.items pushed count turn.1 turn.2 turn.3 c.in_ok-seat_for.ensures before.each;
    }

pub returns : goal.returns
returns c =
    let p = c.args.problem.now in
    let road = YieldsList-at c.into_iter-own-iterator.ensures.into_iter_gives (YieldsList-from_zip
    (YieldsList-at c.zip-own-items.ensures.first (YieldsList-from_vec {s = c.into_iter.result} c.args.known.items c.into_iter.ensures.rest (search rules)))
    (YieldsList-at c.zip-own-items.ensures.second (YieldsList-from_zip
    (YieldsList-at c.zip.ensures.first (YieldsList-from_vec {s = c.into_iter-2.result} c.args.links.tails.items c.into_iter-2.ensures.rest (search rules)))
    (YieldsList-from_vec {s = c.zip.result.b} c.args.links.heads.items c.zip.ensures.second.0 (search rules))))) in
    let end = YieldsList-end road c.loop-own.yielded c.loop-own.own-iterator c.loop-own.yielded_by c.next.result c.next.new.self c.in-None.is c.next.ensures.steps in
    all_seated p c.args.start.now c.args.known.items c.args.links.tails.items c.args.links.heads.items c.loop-own.seats.items c.requires.known c.requires.ends (c.loop-own.invariant.size ∙ end.1) c.loop-own.invariant.each
