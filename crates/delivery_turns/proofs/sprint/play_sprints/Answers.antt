use Rattle.std.proofs.Common.{◌≤◌, List, sym, ◌∙◌, arith}
use Rattle.std.specs.List.{flat_map}
use Rattle.protocol_steps.specs.declared.event.Event.{Event}
use Rattle.protocol_steps.proofs.RunLaws.{rounds_are_a_run}
use Rattle.worker_laws.proofs.CellStampLaws.{run_delivers}
use Rattle.delivery_core.specs.NetworkState.{most_counted}
use Rattle.delivery_turns.proofs.PlayLaws.{over_is, stops_over, stops_spent}
use Rattle.delivery_turns.specs.Sprints.{round_room, run_room}
use Rattle.delivery_turns.proofs.KeptLaws.{ran_after, still_noted}
use Rattle.delivery_turns.proofs.SprintLaws.{sprinted_none, sprinted_next, sprints_stop, sprints_still}
use Rattle.delivery_turns.proofs.sprint.play_sprints.Goals as goal

pub loop-init : goal.loop-init
loop-init g c = λ p first core. sprinted_none p c.args.budget first c.args.state.now c.args.notes.now core

pub returns-then-is_over : goal.returns-then-is_over
returns-then-is_over g c = λ p first core.
    let fits : c.args.budget ≤ most_counted = omega arith in
    let k = c.loop.invariant p first core in
    let h = k.0 in
    sprints_stop p c.args.budget first c.loop.counter c.loop.state c.args.notes.now c.loop.notes h k.1
    (stops_over c.args.budget h.mid (sym (over_is p c.args.budget h.mid c.loop.state fits h.core) ∙ sym c.is_over.ensures ∙ c.if-is_over.true))

pub play_sprint-requires-clause-core : goal.play_sprint-requires-clause-core
play_sprint-requires-clause-core g c κs within =
    let n = c.requires.core in
    let k = c.loop.invariant n.0 n.1 n.4 in
    let h = k.0 in
    let all : List Event = flat_map (λ es. es) h.pieces in
    let ran = rounds_are_a_run c.args.budget n.1 h.mid h.pieces h.are in
    let more = run_delivers n.1 h.mid all ran in
    let most = h.counted in
    still_noted (run_room c.args.budget) round_room c.args.state.now c.loop.state c.args.notes.now c.loop.notes n all h.mid (ran_after n.1 h.mid all ran) h.core k.1 (omega (arith, more, most))

pub play_sprint-requires-clause-few : goal.play_sprint-requires-clause-few
play_sprint-requires-clause-few g c κs within =
    let n = c.requires.core in
    let h = (c.loop.invariant n.0 n.1 n.4).0 in
    let old = n.4.shows.size in
    let now = h.core.shows.size in
    let few = c.requires.few in
    omega (arith, old, now, few)

pub returns-then-branch : goal.returns-then-branch
returns-then-branch g c = λ p first core.
    sprints_still p c.args.budget first c.loop.counter c.loop.state c.play_sprint.new.state c.args.notes.now c.loop.notes c.play_sprint.new.notes c.in_ok-play_sprint.field-0 (c.loop.invariant p first core) c.in_ok-play_sprint.ensures c.if-branch.true

pub loop-preserved : goal.loop-preserved
loop-preserved g c = λ p first core.
    let fits : c.args.budget ≤ most_counted = omega arith in
    sprinted_next p c.args.budget first c.loop.counter c.loop.state c.play_sprint.new.state c.args.notes.now c.loop.notes c.play_sprint.new.notes c.in_ok-play_sprint.field-0 fits (c.loop.invariant p first core) (sym c.is_over.ensures ∙ c.if-is_over.false) c.in_ok-play_sprint.ensures c.if-branch.false

pub returns : goal.returns
returns g c = λ p first core.
    let k = c.loop.invariant p first core in
    let h = k.0 in
    let spent = h.spent in
    let done = c.loop-test.false in
    sprints_stop p c.args.budget first c.loop.counter c.loop.state c.args.notes.now c.loop.notes h k.1 (stops_spent c.args.budget h.mid (omega (arith, spent, done)))
