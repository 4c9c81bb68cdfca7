use Rattle.std.proofs.Common.{◌≡◌, ◌==◌, false, List, None, length, vec_len, sym, ap, subst, ◌∙◌}
use Rattle.std.proofs.lemmas.Option.{get_or_from_slice_get}
use Rattle.std.proofs.lemmas.Result.{on_ok_weaker}
use Rattle.protocol_steps.specs.declared.event.Take.{Take}
use Rattle.protocol_steps.specs.Effect.{effect}
use Rattle.delivery_core.specs.State.{CoreView}
use Rattle.delivery_core.specs.SeatEvents.{core_fault}
use Rattle.delivery_core.specs.Takes.{seat_takes}
use Rattle.delivery_turns.specs.Turns.{event_with, turn}
use Rattle.delivery_core.specs.Shown.{IsCore, IsSomeCore}
use Rattle.delivery_core.proofs.ShownLaws.{there_is}
use Rattle.delivery_turns.proofs.TurnLaws.{turn_by, turn_lawful, turn_leads, turn_none, none_leads}
use Rattle.delivery_turns.proofs.turn.take_turn.Goals as goal

pub returns-then-is_empty : goal.returns-then-is_empty
returns-then-is_empty g c = λ p net core.
    let s = there_is c.args.state.now.seats c.args.me c.requires.inside in
    let takes : c.list_takes.new.takes.items ≡ seat_takes s.0 =
    c.in_ok-list_takes.ensures.takes s.0 ∙ ap seat_takes (get_or_from_slice_get c.args.state.now.seats c.args.me s.0 s.0 s.1) in
    let size : length (seat_takes s.0) ≡ vec_len c.list_takes.new.takes = sym (c.list_takes.new.takes.ok.0 ∙ ap (λ (ts : List Take). length ts) takes) in
    let none = turn_none p net c.args.state.now.seats core.shows c.args.me s.0 s.1 (ap (λ n. n == 0) size ∙ sym c.if-is_empty.ensures) in
    let kept : IsCore p net c.list_takes.new.self = subst (λ (t : CoreView). IsCore p net t) (sym c.list_takes.ensures.same) core in
    let leads = none_leads p net (turn net c.args.me) c.list_takes.new.self kept none in
    let by = turn_by p net c.args.state.now.seats core.shows c.args.me s.0 s.1 in
    (leads.0, leads.1, by ∙ ap (λ (ts : List Take). event_with c.args.me ts) (sym takes))

pub follow-requires-clause-core : goal.follow-requires-clause-core
follow-requires-clause-core g c = subst (λ (t : CoreView). IsSomeCore t) (sym c.list_takes.ensures.same) c.requires.core

pub follow-requires-clause-lawful : goal.follow-requires-clause-lawful
follow-requires-clause-lawful g c =
    let core = c.requires.core in
    let s = there_is c.args.state.now.seats c.args.me c.requires.inside in
    let found : c.list_takes.new.takes.items ≡ seat_takes s.0 =
    c.in_ok-list_takes.ensures.takes s.0 ∙ ap seat_takes (get_or_from_slice_get c.args.state.now.seats c.args.me s.0 s.0 s.1) in
    let size : length (seat_takes s.0) ≡ vec_len c.list_takes.new.takes = sym (c.list_takes.new.takes.ok.0 ∙ ap (λ (ts : List Take). length ts) found) in
    let takes : c.as_slice.result.now ≡ seat_takes s.0 = c.as_slice.ensures.value ∙ found in
    subst (λ (t : CoreView). core_fault t.seats (record { agent = c.args.me; takes = c.as_slice.result.now }) ≡ None) (sym c.list_takes.ensures.same)
    (subst (λ (ts : List Take). core_fault c.args.state.now.seats (record { agent = c.args.me; takes = ts }) ≡ None) (sym takes)
    (turn_lawful core.0 core.1 c.args.state.now.seats core.2.shows c.args.me s.0 s.1 (ap (λ n. n == 0) size ∙ sym c.if-is_empty.ensures)))

pub returns : goal.returns
returns g c = on_ok_weaker c.follow.result (λ follows p net core.
    let s = there_is c.args.state.now.seats c.args.me c.requires.inside in
    let found : c.list_takes.new.takes.items ≡ seat_takes s.0 =
    c.in_ok-list_takes.ensures.takes s.0 ∙ ap seat_takes (get_or_from_slice_get c.args.state.now.seats c.args.me s.0 s.0 s.1) in
    let size : length (seat_takes s.0) ≡ vec_len c.list_takes.new.takes = sym (c.list_takes.new.takes.ok.0 ∙ ap (λ (ts : List Take). length ts) found) in
    let some : (length (seat_takes s.0) == 0) ≡ false = ap (λ n. n == 0) size ∙ sym c.if-is_empty.ensures in
    let takes : c.as_slice.result.now ≡ seat_takes s.0 = c.as_slice.ensures.value ∙ found in
    let kept : IsCore p net c.list_takes.new.self = subst (λ (t : CoreView). IsCore p net t) (sym c.list_takes.ensures.same) core in
    let done = follows p net kept in
    let now = subst (λ (ts : List Take). IsCore p (effect net (record { agent = c.args.me; takes = ts })) c.follow.new.self) takes done.1 in
    let leads = turn_leads p net c.args.state.now.seats core.shows c.args.me s.0 s.1 some c.follow.new.self now in
    let by = turn_by p net c.args.state.now.seats core.shows c.args.me s.0 s.1 in
    (leads.0, leads.1, by ∙ ap (λ (ts : List Take). event_with c.args.me ts) (sym found))) c.follow.ensures
