-- How agents have run, and with what outcome, by the network in which the run ended.
use Rattle.std.specs.Prelude.{◌≡◌, ℕ, List, map, Some, slice_get}
use Rattle.std.specs.Option.{option_map}
use Rattle.protocol_steps.specs.declared.event.Event.{Event}
use Rattle.protocol_steps.specs.declared.outcome.Outcome.{Outcome}
use Rattle.protocol_steps.specs.declared.run_end.RunEnd.{RunEnd}
use Rattle.protocol_steps.specs.View.{View, value_of, standing_of, table_of, place_of}
use Rattle.protocol_steps.specs.Network.{Network, start_state}
use Rattle.protocol_steps.specs.Effect.{has_ended, deliveries}
use Rattle.protocol_steps.specs.Rounds.{AreRounds}
use Rattle.protocol_steps.specs.RunEnds.{IsRunEnd}

-- the outcome is that of this network: each agent's value, the tables that were made and the places that were found, the bounds and the threshold of agent 0, the number of messages taken, and whether all agents have ended
pub record IsOutcomeOf (net : Network) (outcome : Outcome) : Type 0 where
  pub values : outcome.values ≡ map value_of net.views
  pub tables : outcome.tables ≡ map table_of net.views
  pub places : outcome.places ≡ map place_of net.views
  pub top : option_map standing_of (slice_get net.views 0) ≡ Some outcome.top
  pub deliveries : outcome.deliveries ≡ deliveries net
  pub ended : outcome.ended ≡ has_ended net

-- agents made with these views have run, whoever ran them: rounds under this budget lead from their start to a network in which all have ended, or the budget is spent, or nothing is pending; and the outcome is that of this network
pub record HaveRun (budget : ℕ) (made : List View) (outcome : Outcome) : Type 0 where
  pub rounds : List (List Event)
  pub end : Network
  pub how : RunEnd
  pub are_rounds : AreRounds budget (start_state made) rounds end
  pub stopped : IsRunEnd budget end how
  pub told : IsOutcomeOf end outcome
