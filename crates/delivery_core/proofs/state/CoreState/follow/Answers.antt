use Rattle.std.proofs.Common.{◌≡◌, List, length, None, min, arith, sym, ap, subst, ◌∙◌}
use Rattle.protocol_steps.specs.declared.event.Event.{Event}
use Rattle.protocol_steps.specs.Effect.{effect, deliveries}
use Rattle.letter_queues.proofs.ListLaws.{written_back}
use Rattle.delivery_core.specs.State.{SeatView, CoreView}
use Rattle.delivery_core.specs.NetworkState.{most_counted}
use Rattle.delivery_core.specs.SeatEvents.{core_fault}
use Rattle.delivery_core.specs.Shown.{IsCore, ShowsNetwork}
use Rattle.delivery_core.proofs.ShownLaws.{fault_same}
use Rattle.delivery_core.proofs.ActLaws.{seated}
use Rattle.delivery_core.proofs.CountLaws.{deliveries_after, counts, counted}
use Rattle.delivery_core.proofs.state.CoreState.follow.Goals as goal

pub returns : goal.returns
returns c = λ p net core.
    let e : Event = record { agent = c.args.agent; takes = c.args.takes.now } in
    let seats = c.self.inside.seats.items in
    let here = subst (λ (s : CoreView). IsCore p net s) (sym c.self.view_is) core in
    let none : core_fault seats e ≡ None = ap (λ (s : CoreView). core_fault s.seats e) c.self.view_is ∙ c.requires.lawful in
    let count : c.count_of-taken.result ≡ min (counts c.args.takes.now) most_counted = c.count_of-taken.ensures in
    let vec = c.self.inside.seats in
    let size : length c.act.new.seats ≡ vec.len = omega arith in
    let back = written_back vec.len c.act.new.seats vec.items size (sym vec.ok.0) in
    let after = deliveries_after p net seats here.shows e (seated seats e none) in (
      fault_same p net seats here.shows e ∙ none,
      record {
        shows = subst (λ (xs : List SeatView). ShowsNetwork p (effect net e) xs) (sym back) (c.in_ok-act.ensures.moved p net (subst (λ (xs : List SeatView). ShowsNetwork p net xs) (sym c.as_mut_slice.ensures.value) here.shows));
        delivered = counted (deliveries net) (counts c.args.takes.now) c.self.inside.delivered c.count_of-taken.result c.saturating_add-self-inside.result most_counted
            here.delivered count c.saturating_add-self-inside.ensures
            ∙ ap (λ n. min n most_counted) (sym after);
      },
    )
