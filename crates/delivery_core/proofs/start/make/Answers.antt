use Rattle.std.proofs.Common.{◌≡◌, ℕ, ◌++◌, ◌∷◌, [], List, map, length, sym, ap, ◌∙◌, arith, rules}
use Rattle.std.specs.List.{range_with_len}
use Rattle.std.proofs.lemmas.List.{length-append, length-map}
use Rattle.std.proofs.lemmas.List.FromFn.{length-map-range_with_len}
use Rattle.std.proofs.lemmas.Iterator.Consumers.{YieldsList-turn, YieldsList-end}
use Rattle.std.proofs.lemmas.Iterator.Adapters.{YieldsList-from_vec}
use Rattle.dcop_base.specs.declared.knowledge.Private.{Private}
use Rattle.protocol_steps.specs.View.{View}
use Rattle.delivery_core.specs.State.{SeatView}
use Rattle.delivery_core.specs.Starts.{agent_of, knowledge_for, new_seat}
use Rattle.delivery_core.proofs.StartLaws.{agents_made, seats_more, own_me, own_is, known_own}
use Rattle.delivery_core.proofs.start.make.Goals as goal

pub make_seat-requires-clause-inside : goal.make_seat-requires-clause-inside
make_seat-requires-clause-inside c =
    let p = c.args.problem.now in
    let start = c.args.start.now in
    let turn = YieldsList-turn (YieldsList-from_vec {s = c.into_iter-own-iterator.result} c.in_ok-known.known.items (search rules) (search rules))
    c.loop-own.yielded c.loop-own.own-iterator c.loop-own.yielded_by c.next.result c.next.new.self c.in-Some.own c.in-Some.is c.next.ensures.steps in
    let is = own_is p start c.in_ok-known.known.items (length c.loop-own.yielded) c.in-Some.own c.in_ok-known.ensures turn in
    let lt = is.0 in
    let me = own_me p start (length c.loop-own.yielded) c.in-Some.own is.1 in
    omega (arith, lt, me)

pub make_seat-requires-clause-known : goal.make_seat-requires-clause-known
make_seat-requires-clause-known c =
    let p = c.args.problem.now in
    let start = c.args.start.now in
    let turn = YieldsList-turn (YieldsList-from_vec {s = c.into_iter-own-iterator.result} c.in_ok-known.known.items (search rules) (search rules))
    c.loop-own.yielded c.loop-own.own-iterator c.loop-own.yielded_by c.next.result c.next.new.self c.in-Some.own c.in-Some.is c.next.ensures.steps in
    let is = own_is p start c.in_ok-known.known.items (length c.loop-own.yielded) c.in-Some.own c.in_ok-known.ensures turn in
    known_own p start (length c.loop-own.yielded) c.in-Some.own is.1

pub loop-own-preserved : goal.loop-own-preserved
loop-own-preserved c =
    let p = c.args.problem.now in
    let start = c.args.start.now in
    let made = agent_of p start in
    let n : ℕ = length c.loop-own.yielded in
    let turn = YieldsList-turn (YieldsList-from_vec {s = c.into_iter-own-iterator.result} c.in_ok-known.known.items (search rules) (search rules))
    c.loop-own.yielded c.loop-own.own-iterator c.loop-own.yielded_by c.next.result c.next.new.self c.in-Some.own c.in-Some.is c.next.ensures.steps in
    let is = own_is p start c.in_ok-known.known.items n c.in-Some.own c.in_ok-known.ensures turn in
    let me : c.in-Some.own.me ≡ n = own_me p start n c.in-Some.own is.1 in
    let before : c.loop-own.seats.items ≡ map new_seat (map made (range_with_len 0 n)) = c.loop-own.invariant in
    c.in_ok-push.ensures.items
    ∙ ap (λ (xs : List SeatView). xs ++ c.in_ok-make_seat.field-0 ∷ []) before
    ∙ ap (λ (x : SeatView). map new_seat (map made (range_with_len 0 n)) ++ x ∷ []) (c.in_ok-make_seat.ensures ∙ ap (λ (i : ℕ). new_seat (made i)) me)
    ∙ sym (seats_more p start n)
    ∙ ap (λ (k : ℕ). map new_seat (map made (range_with_len 0 k))) (sym (length-append c.loop-own.yielded (c.in-Some.own ∷ [])))

pub returns-clause-made : goal.returns-clause-made
returns-clause-made c =
    let p = c.args.problem.now in
    let start = c.args.start.now in
    let made = agent_of p start in
    let end = YieldsList-end (YieldsList-from_vec {s = c.into_iter-own-iterator.result} c.in_ok-known.known.items (search rules) (search rules))
    c.loop-own.yielded c.loop-own.own-iterator c.loop-own.yielded_by c.next.result c.next.new.self c.in-None.is c.next.ensures.steps in
    let size : length c.in_ok-known.known.items ≡ length p.sizes = ap (λ (xs : List Private). length xs) c.in_ok-known.ensures ∙ length-map-range_with_len (knowledge_for p start) 0 (length p.sizes) in
    let before : c.loop-own.seats.items ≡ map new_seat (map made (range_with_len 0 (length c.loop-own.yielded))) = c.loop-own.invariant in
    before ∙ ap (λ (n : ℕ). map new_seat (map made (range_with_len 0 n))) (end.1 ∙ size) ∙ ap (λ (vs : List View). map new_seat vs) (sym (agents_made p start))

pub returns-clause-few : goal.returns-clause-few
returns-clause-few c =
    let p = c.args.problem.now in
    let start = c.args.start.now in
    let made = agent_of p start in
    let end = YieldsList-end (YieldsList-from_vec {s = c.into_iter-own-iterator.result} c.in_ok-known.known.items (search rules) (search rules))
    c.loop-own.yielded c.loop-own.own-iterator c.loop-own.yielded_by c.next.result c.next.new.self c.in-None.is c.next.ensures.steps in
    let size : length c.in_ok-known.known.items ≡ length p.sizes = ap (λ (xs : List Private). length xs) c.in_ok-known.ensures ∙ length-map-range_with_len (knowledge_for p start) 0 (length p.sizes) in
    let before : c.loop-own.seats.items ≡ map new_seat (map made (range_with_len 0 (length c.loop-own.yielded))) = c.loop-own.invariant in
    let count : length c.loop-own.seats.items ≡ length c.loop-own.yielded =
    ap (λ (xs : List SeatView). length xs) before ∙ length-map (map made (range_with_len 0 (length c.loop-own.yielded))) new_seat ∙ length-map-range_with_len made 0 (length c.loop-own.yielded) in
    let few = c.problem_is_whole.ensures.few in
    let all = end.1 in
    omega (arith, count, all, size, few)
