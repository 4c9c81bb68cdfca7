-- What a core state has: the view of each agent, what waits for it and what it took last, and the
-- number of deliveries.
use Rattle.std.specs.Prelude.{ℕ, List, [], map, length, Option, Some, None, slice_get}
use Rattle.dcop_base.specs.Table.{CostTable}
use Rattle.pseudotree.specs.declared.agent.Place.{Place}
use Rattle.protocol_steps.specs.declared.message.Message.{Message}
use Rattle.adopt_context.specs.Context.{Context}
use Rattle.protocol_steps.specs.View.{View, context_of, place_of, table_of}
use Rattle.letter_queues.specs.Links.{LinkView, waiting_from, last_letter}

-- an agent: its view, and what it was sent, by sender
pub record SeatView : Type 0 where
  pub view : View
  pub inbox : List LinkView

-- all agents, and the number of deliveries: how many messages were taken
pub record CoreView : Type 0 where
  pub seats : List SeatView
  pub delivered : ℕ

-- what an agent was sent, by sender; nothing if there is no agent
abbrev pub inbox_of : Option SeatView → List LinkView
inbox_of None = []
inbox_of (Some x) = x.inbox

-- what agent i was sent, by sender; nothing if there is no such agent
abbrev pub inbox_at : List SeatView → ℕ → List LinkView
inbox_at seats i = inbox_of (slice_get seats i)

-- how many letters of one agent wait for another
abbrev pub count_waiting : CoreView → ℕ → ℕ → ℕ
count_waiting s to from = length (waiting_from (inbox_at s.seats to) from)

-- the message of a letter, if there is one
abbrev pub message_of : Option (ℕ × Message) → Option Message
message_of None = None
message_of (Some l) = Some l.1

-- the last message on a link, if one was sent
abbrev pub last_sent : CoreView → ℕ → ℕ → Option Message
last_sent s from to = message_of (last_letter (inbox_at s.seats to) from)

-- the view of each agent
abbrev pub views_of : List SeatView → List View
views_of seats = map (λ x. x.view) seats

-- the view of agent i
abbrev pub view_at : CoreView → ℕ → Option View
view_at s i = slice_get (views_of s.seats) i

-- the place that a token agent found, if there is such an agent and it has ended
abbrev pub place_in : Option View → Option Place
place_in None = None
place_in (Some v) = place_of v

-- the context of an ADOPT agent, if there is such an agent
abbrev pub context_in : Option View → Option Context
context_in None = None
context_in (Some v) = context_of v

-- the UTIL table that a DPOP agent made, if there is such an agent and it has made one
abbrev pub table_in : Option View → Option CostTable
table_in None = None
table_in (Some v) = table_of v
