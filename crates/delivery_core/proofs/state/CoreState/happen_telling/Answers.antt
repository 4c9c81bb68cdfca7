use Rattle.std.proofs.Common.{◌≡◌, List, None, sym, ap, subst, ◌∙◌}
use Rattle.protocol_steps.specs.declared.event.Take.{Take}
use Rattle.protocol_steps.specs.declared.event.Event.{Event}
use Rattle.protocol_steps.specs.Effect.{effect}
use Rattle.protocol_steps.specs.Run.{event_fault}
use Rattle.delivery_core.specs.State.{SeatView, CoreView}
use Rattle.delivery_core.specs.SeatEvents.{core_fault}
use Rattle.delivery_core.specs.Shown.{IsCore}
use Rattle.delivery_core.specs.Exchanges.{Exchanges}
use Rattle.delivery_core.proofs.ShownLaws.{fault_same}
use Rattle.delivery_core.proofs.state.CoreState.happen_telling.Goals as goal

pub returns-in-Some-clause-plays : goal.returns-in-Some-clause-plays
returns-in-Some-clause-plays c = λ p net core.
    let here = subst (λ (s : CoreView). IsCore p net s) (sym c.self.view_is) core in
    fault_same p net c.self.inside.seats.items here.shows c.args.event.now
    ∙ ap (λ (xs : List SeatView). core_fault xs c.args.event.now) (sym c.as_slice.ensures.value)
    ∙ sym c.fault_of.ensures
    ∙ c.in-Some.is

pub returns-clause-plays : goal.returns-clause-plays
returns-clause-plays c = λ p net core.
    let with : List Take → Event = λ ts. record { agent = c.args.event.now.agent; takes = ts } in
    subst (λ (ts : List Take). (event_fault net (with ts) ≡ None) × IsCore p (effect net (with ts)) c.follow_telling.new.self) c.as_slice-2.ensures (c.in_ok-follow_telling.ensures.advances p net core)

pub returns-clause-tells : goal.returns-clause-tells
returns-clause-tells c = λ none.
    let with : List Take → Event = λ ts. record { agent = c.args.event.now.agent; takes = ts } in
    let exchange = c.follow_telling.new.exchange in
    subst (λ (ts : List Take). Exchanges c.args.self.now (with ts) exchange.took.items exchange.sent.items) c.as_slice-2.ensures c.in_ok-follow_telling.ensures.tells
