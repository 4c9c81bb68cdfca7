-- Links: for each ordered pair of agents all messages sent and the number taken, and how a start and an event change them.
use Rattle.std.specs.Prelude.{◌≡◌, ◌≢◌, ℕ, ◌+◌, List, [], ◌++◌, Some, ◌==◌, if◌then◌else◌, slice_get}
use Rattle.protocol_steps.specs.declared.message.Message.{Message}
use Rattle.protocol_steps.specs.declared.event.Take.{Take}
use Rattle.protocol_steps.specs.declared.event.Event.{Event}
use Rattle.protocol_steps.specs.Agent.{Stepped}
use Rattle.protocol_steps.specs.View.{View}
use Rattle.protocol_steps.specs.Step.{start_of, step_of}
use Rattle.protocol_steps.specs.Network.{Desk, Network, start_state, messages_to, taken_from, takes_at, link, batch}
use Rattle.protocol_steps.specs.Run.{happen}

-- how many messages agent i has taken from agent j
abbrev pub taken_at : List Desk → ℕ → ℕ → ℕ
taken_at ds i j = taken_from j (takes_at (slice_get ds i))

-- what agent j sends to agent i in an event of `agent`; nothing if `agent` is not j
abbrev pub sent_in : ℕ → ℕ → ℕ → List (ℕ × Message) → List Message
sent_in agent j i sends = if agent == j then messages_to i sends else []

-- how many messages agent i takes from agent j in an event of `agent`; 0 if `agent` is not i
abbrev pub taken_in_event : ℕ → ℕ → ℕ → List Take → ℕ
taken_in_event agent i j ts = if agent == i then taken_from j ts else 0

-- the step of an event: the agent with this view reacts to its batch
abbrev pub step_in : Network → Event → View → Stepped View
step_in net e v = step_of v (batch net.desks e.agent e.takes)

-- the effect of an event: the agent's view becomes that of its step and all others stay, each parcel is appended to its link, and the number of messages taken from each link rises by the takes
pub record IsEffect (net : Network) (e : Event) (after : Network) : Type 0 where
  pub view : View
  pub before : slice_get net.views e.agent ≡ Some view
  pub stepped : slice_get after.views e.agent ≡ Some (step_in net e view).view
  pub others : (i : ℕ) → e.agent ≢ i → slice_get after.views i ≡ slice_get net.views i
  pub sent : (i j : ℕ) → link after.desks j i ≡ link net.desks j i ++ sent_in e.agent j i (step_in net e view).sends
  pub taken : (i j : ℕ) → taken_at after.desks i j ≡ taken_at net.desks i j + taken_in_event e.agent i j e.takes

-- the start state: each link holds what the sender's start sent on it, and nothing has been taken
pub record IsBegun (made : List View) : Type 0 where
  pub sent : (i j : ℕ) (v : View) → slice_get made j ≡ Some v → link (start_state made).desks j i ≡ messages_to i (start_of v).sends
  pub taken : (i j : ℕ) → taken_at (start_state made).desks i j ≡ 0

-- what the links hold in the start state, and how each lawful event changes them
pub record LinksGrow : Type 0 where
  pub begun : (made : List View) → IsBegun made
  pub happens : (net after : Network) (e : Event) → happen (Some net) e ≡ Some after → IsEffect net e after
