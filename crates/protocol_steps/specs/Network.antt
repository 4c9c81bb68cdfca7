-- Networks: the view of each agent, what it sent and what it took, and the messages on the links.
use Rattle.std.specs.Prelude.{ℕ, List, [], ◌∷◌, map, take, drop, Option, Some, None, ◌==◌, if◌then◌else◌, slice_get}
use Rattle.std.specs.List.{sum_by, flat_map}
use Rattle.protocol_steps.specs.declared.message.Message.{Message}
use Rattle.protocol_steps.specs.declared.event.Take.{Take}
use Rattle.protocol_steps.specs.View.{View}
use Rattle.protocol_steps.specs.Step.{start_of}

-- what one agent did: all parcels that it sent and all takes that it made, in order
pub record Desk : Type 0 where
  pub sent : List (ℕ × Message)
  pub takes : List Take

-- a network: each agent's view and desk
pub record Network : Type 0 where
  pub views : List View
  pub desks : List Desk

-- the start state: all agents have started, and nothing is taken
abbrev pub start_state : List View → Network
start_state made = record {
  views = map (λ v. (start_of v).view) made;
  desks = map (λ v. record { sent = (start_of v).sends; takes = [] }) made;
}

-- the message of a parcel as a list, if the parcel is for agent i
abbrev pub message_to : ℕ → ℕ × Message → List Message
message_to i p = if p.0 == i then p.1 ∷ [] else []

-- the messages of those parcels that are for agent i
abbrev pub messages_to : ℕ → List (ℕ × Message) → List Message
messages_to i ps = flat_map (λ p. message_to i p) ps

-- how many messages were taken from agent j
abbrev pub taken_from : ℕ → List Take → ℕ
taken_from j ts = sum_by (λ t. if t.from == j then t.count else 0) ts

-- all parcels of an optional desk; none if there is no desk
abbrev pub sent_at : Option Desk → List (ℕ × Message)
sent_at None = []
sent_at (Some x) = x.sent

-- all takes of an optional desk; none if there is no desk
abbrev pub takes_at : Option Desk → List Take
takes_at None = []
takes_at (Some x) = x.takes

-- the link: all that agent j has sent to agent i
abbrev pub link : List Desk → ℕ → ℕ → List Message
link ds j i = messages_to i (sent_at (slice_get ds j))

-- the messages that agent j has sent to agent i and that i has not taken
abbrev pub waiting : List Desk → ℕ → ℕ → List Message
waiting ds i j = drop (taken_from j (takes_at (slice_get ds i))) (link ds j i)

-- the letters of a take: the next messages of its link
abbrev pub next_letters : List Desk → ℕ → Take → List (ℕ × Message)
next_letters ds i t = map (λ m. (t.from, m)) (take t.count (waiting ds i t.from))

-- the batch of agent i by its takes
abbrev pub batch : List Desk → ℕ → List Take → List (ℕ × Message)
batch ds i ts = flat_map (λ t. next_letters ds i t) ts
