-- What an agent of a core state takes and sends in an event.
use Rattle.std.specs.Prelude.{◌≡◌, ℕ, List}
use Rattle.dcop_base.specs.Problem.{Dcop}
use Rattle.protocol_steps.specs.declared.message.Message.{Message}
use Rattle.protocol_steps.specs.declared.event.Event.{Event}
use Rattle.protocol_steps.specs.Network.{Network, batch}
use Rattle.protocol_steps.specs.Effect.{event_sends}
use Rattle.delivery_core.specs.State.{SeatView, CoreView}
use Rattle.delivery_core.specs.Shown.{ShowsNetwork, IsCore}

-- when this event happens in a core state, its agent takes these letters and sends these parcels
pub record Exchanges (s : CoreView) (e : Event) (took : List (ℕ × Message)) (sent : List (ℕ × Message)) : Type 0 where
  pub letters : (p : Dcop) (net : Network) → IsCore p net s → took ≡ batch net.desks e.agent e.takes
  pub parcels : (p : Dcop) (net : Network) → IsCore p net s → sent ≡ event_sends net e

-- the same for a list of agents: in this event its agent takes these letters and sends these
-- parcels
abbrev pub Trades : List SeatView → Event → List (ℕ × Message) → List (ℕ × Message) → Type 0
Trades seats e took sent = (p : Dcop) (net : Network) → ShowsNetwork p net seats → (took ≡ batch net.desks e.agent e.takes) × (sent ≡ event_sends net e)
