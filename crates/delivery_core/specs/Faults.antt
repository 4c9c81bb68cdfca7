-- Replay: the end of a run, or the first unlawful event.
use Rattle.std.specs.Prelude.{◌≡◌, ℕ, ◌+◌, List, take, Some, Result, Ok, Err, slice_get}
use Rattle.protocol_steps.specs.declared.event.Event.{Event}
use Rattle.protocol_steps.specs.declared.event.EventFault.{EventFault}
use Rattle.protocol_steps.specs.Network.{Network}
use Rattle.protocol_steps.specs.Run.{event_fault, run}
use Rattle.delivery_core.specs.declared.replaying.ReplayFault.{ReplayFault}
use Rattle.delivery_core.specs.declared.replaying.ReplayFault.TheVariants.{BadEvent, NoMemory}
use Rattle.delivery_core.specs.State.{CoreView}
use Rattle.delivery_core.specs.NetworkState.{IsStateOf}

-- the events before place `at`, counted from 0, are a run, and the event at that place has this
-- fault at the end of the run
pub record FirstFault (net : Network) (es : List Event) (at : ℕ) (fault : EventFault) : Type 0 where
  pub middle : Network
  pub before : run net (take at es) ≡ Some middle
  pub event : Event
  pub is : slice_get es at ≡ Some event
  pub unlawful : event_fault middle event ≡ Some fault

-- what a replay returns: a core state that is the network state at the end of the run of these
-- events; or the number, counted from 1, of the first event that is not lawful, and its fault; if
-- memory runs out, nothing is said of the events
abbrev pub Replays : Network → List Event → Result CoreView ReplayFault → Type 0
Replays net es (Ok s) = (end : Network) × (run net es ≡ Some end) × IsStateOf end s
Replays net es (Err (BadEvent at fault)) = (place : ℕ) × (at ≡ place + 1) × FirstFault net es place fault
Replays net es (Err NoMemory) = Unit {0}
