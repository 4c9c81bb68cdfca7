use Rattle.std.proofs.Common.{◌≡◌, map, ap, ◌∙◌}
use Rattle.protocol_steps.specs.View.{View, value_of, table_of, place_of}
use Rattle.delivery_core.specs.State.{SeatView, CoreView}
use Rattle.delivery_core.proofs.ListLaws.{map-map}
use Rattle.delivery_core.proofs.outcome.outcome_of.Goals as goal

pub returns : goal.returns
returns c =
    let seats : c.state.inside.seats.items ≡ c.args.state.seats = ap (λ (s : CoreView). s.seats) c.state.view_is in
    let view : SeatView → View = λ x. x.view in
    record {
      values =
          c.in_ok-values.ensures
          ∙ ap (map (λ (x : SeatView). value_of x.view)) (c.as_slice.ensures.value ∙ seats)
          ∙ map-map value_of view c.args.state.seats;
      tables = c.in_ok-made.ensures.tables ∙ ap (map (λ (x : SeatView). table_of x.view)) seats ∙ map-map table_of view c.args.state.seats;
      places = c.in_ok-made.ensures.places ∙ ap (map (λ (x : SeatView). place_of x.view)) seats ∙ map-map place_of view c.args.state.seats;
      top = c.standing-top.ensures;
      deliveries = c.deliveries-deliveries.ensures;
      ended = c.all_ended-ended.ensures;
    }
