use Rattle.std.proofs.Common.{◌≡◌, ◌≤◌, length, sym, ◌∙◌, arith}
use Rattle.delivery_core.specs.NetworkState.{most_counted}
use Rattle.delivery_turns.proofs.PlayLaws.{over_is, stops_over, stops_spent, playing_none, playing_next, played, played_still}
use Rattle.delivery_turns.proofs.turn.play_rounds.Goals as goal

pub loop-init : goal.loop-init
loop-init c = λ p first core. playing_none p c.args.budget first c.args.state.now _ c.new-events.ensures.items core

pub returns-then-is_over : goal.returns-then-is_over
returns-then-is_over c = λ p first core.
    let fits : c.args.budget ≤ most_counted = omega arith in
    let h = c.loop.invariant p first core in (
      played p c.args.budget first c.loop.counter c.loop.state c.loop.events.items h
          (stops_over c.args.budget h.mid (sym (over_is p c.args.budget h.mid c.loop.state fits h.core) ∙ sym c.is_over.ensures ∙ c.if-is_over.true)),
      h.core.shows.size,
    )

pub play_round-requires-clause-core : goal.play_round-requires-clause-core
play_round-requires-clause-core c κs =
    let n = c.requires.core in
    let h = c.loop.invariant n.0 n.1 n.2 in
    (n.0, h.mid, h.core)

pub play_round-requires-clause-few : goal.play_round-requires-clause-few
play_round-requires-clause-few c =
    let n = c.requires.core in
    let h = c.loop.invariant n.0 n.1 n.2 in
    let old = n.2.shows.size in
    let now = h.core.shows.size in
    let few = c.requires.few in
    omega (arith, old, now, few)

pub returns-then-len-before : goal.returns-then-len-before
returns-then-len-before c = λ p first core.
    let h = c.loop.invariant p first core in
    let plays = c.in_ok-play_round.ensures in
    let same : length c.play_round.new.events.items ≡ length c.loop.events.items =
    (let now = c.len.ensures in let before = c.len-before.ensures in let is = c.if-len-before.true in let new = c.play_round.new.events.ok.0 in let old = c.loop.events.ok.0 in omega (arith, now, before, is, new, old)) in
    (played_still p c.args.budget first c.loop.counter c.loop.state c.play_round.new.state c.loop.events.items c.play_round.new.events.items h plays same, (plays p h.mid h.core).1.core.shows.size)

pub loop-preserved : goal.loop-preserved
loop-preserved c = λ p first core.
    let fits : c.args.budget ≤ most_counted = omega arith in
    let h = c.loop.invariant p first core in
    let other : length c.play_round.new.events.items ≡ length c.loop.events.items → ⊥ =
    (λ same. let now = c.len.ensures in let before = c.len-before.ensures in let is = c.if-len-before.false in let new = c.play_round.new.events.ok.0 in let old = c.loop.events.ok.0 in omega (arith, now, before, is, new, old, same)) in
    playing_next p c.args.budget first c.loop.counter c.loop.state c.play_round.new.state c.loop.events.items c.play_round.new.events.items h fits (sym c.is_over.ensures ∙ c.if-is_over.false) c.in_ok-play_round.ensures other

pub returns : goal.returns
returns c = λ p first core.
    let h = c.loop.invariant p first core in
    let spent = h.spent in
    let done = c.loop-test.false in
    (played p c.args.budget first c.loop.counter c.loop.state c.loop.events.items h (stops_spent c.args.budget h.mid (omega (arith, spent, done))), h.core.shows.size)
