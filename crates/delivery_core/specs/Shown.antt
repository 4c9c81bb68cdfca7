-- When the agents of a core state are those of a network, with all that an event needs to know of
-- them.
use Rattle.std.specs.Prelude.{◌≡◌, ℕ, ◌<◌, true, List, ◌++◌, length, Some, None, min, slice_get}
use Rattle.std.specs.List.{last_or}
use Rattle.dcop_base.specs.Problem.{Dcop}
use Rattle.dcop_base.specs.Graph.{neighbours}
use Rattle.protocol_steps.specs.declared.message.Message.{Message}
use Rattle.protocol_steps.specs.View.{View, private_of, started_of}
use Rattle.protocol_steps.specs.declared.event.Event.{Event}
use Rattle.protocol_steps.specs.declared.event.EventFault.{EventFault}
use Rattle.protocol_steps.specs.Network.{Network, taken_from, takes_at, link, waiting}
use Rattle.protocol_steps.specs.Effect.{effect, deliveries}
use Rattle.protocol_steps.specs.Run.{event_fault, run}
use Rattle.letter_queues.specs.Links.{waiting_from, last_taken, letters_of}
use Rattle.letter_queues.specs.Inboxes.{senders}
use Rattle.delivery_core.specs.State.{SeatView, CoreView, inbox_at, views_of}
use Rattle.delivery_core.specs.NetworkState.{most_counted}

-- the view of the agent of variable i of this problem, after its start: it names the neighbours of
-- this variable
pub record IsRunningAgent (p : Dcop) (i : ℕ) (v : View) : Type 0 where
  pub near : (private_of v).neighbours ≡ neighbours p i
  pub started : started_of v ≡ true

-- the agents are those of this network: they have the same views, and each has a link for each
-- neighbour; the messages of a link are those that were taken, followed by those that wait
pub record ShowsNetwork (p : Dcop) (net : Network) (seats : List SeatView) : Type 0 where
  pub size : length seats ≡ length p.sizes
  pub desks : length net.desks ≡ length seats
  pub views : views_of seats ≡ net.views
  pub links : (i : ℕ) → i < length seats → senders (inbox_at seats i) ≡ neighbours p i
  pub running : (i : ℕ) (v : View) → slice_get net.views i ≡ Some v → IsRunningAgent p i v
  pub past : ℕ → ℕ → List Message
  pub rest : ℕ → ℕ → List Message
  pub sent : (i j : ℕ) → i < length seats → link net.desks j i ≡ past i j ++ rest i j
  pub taken : (i j : ℕ) → i < length seats → taken_from j (takes_at (slice_get net.desks i)) ≡ length (past i j)
  pub waits : (i j : ℕ) → i < length seats → waiting_from (inbox_at seats i) j ≡ letters_of j (rest i j)
  pub last : (i j : ℕ) → i < length seats → last_taken (inbox_at seats i) j ≡ last_or None (letters_of j (past i j))

-- a core state is this network state, of agents of this problem
pub record IsCore (p : Dcop) (net : Network) (s : CoreView) : Type 0 where
  pub shows : ShowsNetwork p net s.seats
  pub delivered : s.delivered ≡ min (deliveries net) most_counted

-- a core state is a network state of some problem
abbrev pub IsSomeCore : CoreView → Type 0
IsSomeCore s = (p : Dcop) × (net : Network) × IsCore p net s

-- an event is lawful in one core state, and leads from it to another
abbrev pub Advances : CoreView → Event → CoreView → Type 0
Advances old e new = (p : Dcop) (net : Network) → IsCore p net old → (event_fault net e ≡ None) × IsCore p (effect net e) new

-- an event has this fault in this core state
abbrev pub Refuses : CoreView → Event → EventFault → Type 0
Refuses s e fault = (p : Dcop) (net : Network) → IsCore p net s → event_fault net e ≡ Some fault

-- exactly `count` messages of agent `from` wait for agent `to`, if there is such an agent
abbrev pub CountsWaiting : CoreView → ℕ → ℕ → ℕ → Type 0
CountsWaiting s to from count = (p : Dcop) (net : Network) → IsCore p net s → to < length s.seats → count ≡ length (waiting net.desks to from)

-- the event leads from the first list of agents to the second
abbrev pub Moves : List SeatView → Event → List SeatView → Type 0
Moves old e new = (p : Dcop) (net : Network) → ShowsNetwork p net old → ShowsNetwork p (effect net e) new

-- these events are a run that ends in this core state
abbrev pub RunsTo : Dcop → Network → List Event → CoreView → Type 0
RunsTo p first es s = (net : Network) × (run first es ≡ Some net) × IsCore p net s
