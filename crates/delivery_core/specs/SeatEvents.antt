-- What an event does to the agents of a core state.
use Rattle.std.specs.Prelude.{ℕ, List, length, Option, Some, None, slice_get}
use Rattle.std.specs.List.{fold, slice_set}
use Rattle.protocol_steps.specs.declared.message.Message.{Message}
use Rattle.protocol_steps.specs.declared.event.Take.{Take}
use Rattle.protocol_steps.specs.declared.event.Event.{Event}
use Rattle.protocol_steps.specs.declared.event.EventFault.{EventFault}
use Rattle.protocol_steps.specs.declared.event.EventFault.TheVariants.{Nobody}
use Rattle.protocol_steps.specs.View.{ended_of}
use Rattle.protocol_steps.specs.Step.{step_of}
use Rattle.protocol_steps.specs.Run.{or_else, form_fault}
use Rattle.letter_queues.specs.Inboxes.{add_letter, letters_by, inbox_after, short_in}
use Rattle.delivery_core.specs.State.{SeatView}

-- an agent after its step on the letters of these takes, and what it sends in that step
abbrev pub seat_after : SeatView → List Take → SeatView
seat_after x ts = record { view = (step_of x.view (letters_by x.inbox ts)).view; inbox = inbox_after x.inbox ts }

abbrev pub seat_sends : SeatView → List Take → List (ℕ × Message)
seat_sends x ts = (step_of x.view (letters_by x.inbox ts)).sends

-- the agents after a letter arrives at agent k, if there is such an agent
abbrev pub come : List SeatView → ℕ → ℕ × Message → Option SeatView → List SeatView
come seats k m None = seats
come seats k m (Some x) = slice_set seats k (record x { inbox = add_letter x.inbox m })

-- the agents after a parcel of agent i is delivered
abbrev pub deliver : ℕ → List SeatView → ℕ × Message → List SeatView
deliver i seats p = come seats p.0 (i, p.1) (slice_get seats p.0)

abbrev pub deliver_all : ℕ → List SeatView → List (ℕ × Message) → List SeatView
deliver_all i seats ps = fold (deliver i) seats ps

-- the agents after an event of agent i, if there is such an agent
abbrev pub seats_after : List SeatView → ℕ → List Take → Option SeatView → List SeatView
seats_after seats i ts None = seats
seats_after seats i ts (Some x) = deliver_all i (slice_set seats i (seat_after x ts)) (seat_sends x ts)

-- the first fault of these takes by this agent, one of n agents, if they have a fault; if no agent
-- is given, the fault is that there is no such agent
abbrev pub seat_fault : ℕ → List Take → Option SeatView → Option EventFault
seat_fault n ts None = Some Nobody
seat_fault n ts (Some x) = or_else (form_fault n (ended_of x.view) ts) (short_in x.inbox ts)

-- the first fault of an event, if it has one
abbrev pub core_fault : List SeatView → Event → Option EventFault
core_fault seats e = seat_fault (length seats) e.takes (slice_get seats e.agent)
