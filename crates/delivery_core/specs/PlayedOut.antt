-- The outcome of the agents of a core state.
use Rattle.std.specs.Prelude.{◌≡◌, map, Some}
use Rattle.std.specs.List.{list_all}
use Rattle.std.specs.Option.{option_map}
use Rattle.protocol_steps.specs.declared.outcome.Outcome.{Outcome}
use Rattle.protocol_steps.specs.View.{value_of, standing_of, table_of, place_of, ended_of}
use Rattle.delivery_core.specs.State.{CoreView, views_of, view_at}

-- the outcome has the values, tables and places of the agents of this core state, the bounds and
-- the threshold of agent 0, the number of deliveries, and whether all agents have ended
pub record TellsOf (s : CoreView) (outcome : Outcome) : Type 0 where
  pub values : outcome.values ≡ map value_of (views_of s.seats)
  pub tables : outcome.tables ≡ map table_of (views_of s.seats)
  pub places : outcome.places ≡ map place_of (views_of s.seats)
  pub top : option_map standing_of (view_at s 0) ≡ Some outcome.top
  pub deliveries : outcome.deliveries ≡ s.delivered
  pub ended : outcome.ended ≡ list_all ended_of (views_of s.seats)
