use Rattle.std.proofs.Common.{◌++◌, List, ap, sym, arith, ◌∙◌}
use Rattle.std.proofs.lemmas.List.{append-nil, append_assoc}
use Rattle.protocol_steps.specs.declared.event.Event.{Event}
use Rattle.delivery_turns.specs.Turns.{turn}
use Rattle.delivery_turns.proofs.PlayLaws.{turned_none, turned_next, turned_all}
use Rattle.delivery_turns.proofs.turn.play_round.Goals as goal

pub loop-me-init : goal.loop-me-init
loop-me-init g c = λ p net core. let h = turned_none p net c.args.state.now core in (h.0, sym (append-nil c.args.events.now.items) ∙ ap (λ (es : List Event). c.args.events.now.items ++ es) h.1)

pub add_turn-requires-clause-core : goal.add_turn-requires-clause-core
add_turn-requires-clause-core g c κs within =
    let n = c.requires.core in
    let h = (c.loop-me.invariant n.0 n.1 n.2).0 in
    (n.0, h.mid, h.leads.core)

pub add_turn-requires-clause-inside : goal.add_turn-requires-clause-inside
add_turn-requires-clause-inside g c κs within =
    let n = c.requires.core in
    let h = (c.loop-me.invariant n.0 n.1 n.2).0 in
    let old = n.2.shows.size in
    let now = h.leads.core.shows.size in
    let end = c.count-me-end.ensures in
    let lt = c.loop-me-test.true in
    omega (arith, old, now, end, lt)

pub add_turn-requires-clause-few : goal.add_turn-requires-clause-few
add_turn-requires-clause-few g c κs within =
    let n = c.requires.core in
    let h = (c.loop-me.invariant n.0 n.1 n.2).0 in
    let old = n.2.shows.size in
    let now = h.leads.core.shows.size in
    let few = c.requires.few in
    omega (arith, old, now, few)

pub loop-me-preserved : goal.loop-me-preserved
loop-me-preserved g c = λ p net core.
    let old = core.shows.size in
    let end = c.count-me-end.ensures in
    let lt = c.loop-me-test.true in
    let before = c.args.events.now.items in
    let h = c.loop-me.invariant p net core in
    let one = c.in_ok-add_turn.ensures p h.0.mid h.0.leads.core in
    let fs : List Event = turn h.0.mid c.loop-me.me in
    let now = turned_next p net c.loop-me.me c.loop-me.state c.add_turn.new.state h.0 one.0 one.1 (omega (arith, old, end, lt)) in
    (now.0, one.2 ∙ ap (λ (es : List Event). es ++ fs) h.1 ∙ append_assoc before h.0.es fs ∙ ap (λ (es : List Event). before ++ es) now.1)

pub returns : goal.returns
returns g c = λ p net core.
    let old = core.shows.size in
    let end = c.count-me-end.ensures in
    let le = c.loop-me-test.false in
    let h = c.loop-me.invariant p net core in
    let all = turned_all p net c.loop-me.me c.loop-me.state h.0 (omega (arith, old, end, le)) in
    (all.0, all.1, h.1 ∙ ap (λ (es : List Event). c.args.events.now.items ++ es) all.2)
