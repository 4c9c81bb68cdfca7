-- Lawful events, runs and journals.
use Rattle.std.specs.Prelude.{◌≡◌, ℕ, ◌+◌, Bool, true, false, not, ◌||◌, List, [], ◌∷◌, length, Option, Some, None, ◌==◌, nat_lt, nat_le, if◌then◌else◌, slice_get}
use Rattle.std.specs.List.{list_any, flat_map, fold}
use Rattle.protocol_steps.specs.declared.event.Take.{Take}
use Rattle.protocol_steps.specs.declared.event.Event.{Event}
use Rattle.protocol_steps.specs.declared.event.EventFault.{EventFault}
use Rattle.protocol_steps.specs.declared.event.EventFault.TheVariants.{Nobody, Ended, Nothing, Order, TooMany}
use Rattle.protocol_steps.specs.View.{View, ended_of}
use Rattle.protocol_steps.specs.Network.{Desk, Network, waiting}
use Rattle.protocol_steps.specs.Effect.{effect}

-- the first of two optional faults
abbrev pub or_else : Option EventFault → Option EventFault → Option EventFault
or_else (Some f) later = Some f
or_else None later = later

-- whether the senders are at least b, and each is greater than the one before
abbrev pub ascends_from : ℕ → List Take → Bool
ascends_from b [] = true
ascends_from b (t ∷ ts) = if nat_le b t.from then ascends_from (t.from + 1) ts else false

-- whether there is no take, or a take of no messages
abbrev pub has_nothing : List Take → Bool
has_nothing ts = length ts == 0 || list_any (λ t. t.count == 0) ts

-- the first fault in the form of takes, if there are n agents: a sender that is none of them; that
-- the agent has ended; no take, or one of no messages; senders that do not ascend
abbrev pub form_fault : ℕ → Bool → List Take → Option EventFault
form_fault n ended ts =
    if list_any (λ t. nat_le n t.from) ts then Some Nobody
    else (if ended then Some Ended
    else (if has_nothing ts then Some Nothing
    else (if not (ascends_from 0 ts) then Some Order
    else None)))

-- the fault of the first take that asks for more messages than are waiting
abbrev pub too_many : List Desk → ℕ → List Take → Option EventFault
too_many ds i [] = None
too_many ds i (t ∷ ts) =
    if nat_lt (length (waiting ds i t.from)) t.count
    then Some (TooMany t.from t.count (length (waiting ds i t.from)))
    else too_many ds i ts

-- the first fault of agent i's takes
abbrev pub takes_fault : List Desk → ℕ → Bool → List Take → Option EventFault
takes_fault ds i ended ts = or_else (form_fault (length ds) ended ts) (too_many ds i ts)

-- the first fault of an event whose agent has this view and this desk; if one of them is missing,
-- the fault is that there is no such agent
abbrev pub fault_at : List Desk → Event → Option View → Option Desk → Option EventFault
fault_at ds e None x = Some Nobody
fault_at ds e (Some v) None = Some Nobody
fault_at ds e (Some v) (Some x) = takes_fault ds e.agent (ended_of v) e.takes

-- the first fault of an event; an event without a fault is lawful
abbrev pub event_fault : Network → Event → Option EventFault
event_fault net e = fault_at net.desks e (slice_get net.views e.agent) (slice_get net.desks e.agent)

-- a network, unless there is a fault
abbrev pub unless : Option EventFault → Network → Option Network
unless None net = Some net
unless (Some f) net = None

-- one event of a run: the network after it; none if the event is not lawful
abbrev pub happen : Option Network → Event → Option Network
happen None e = None
happen (Some net) e = unless (event_fault net e) (effect net e)

-- the network to which a list of events leads from a network; none if one of the events is not lawful
abbrev pub run : Network → List Event → Option Network
run net es = fold happen (Some net) es

-- the journal of agent i: what each of its events took, in order
abbrev pub journal : ℕ → List Event → List (List Take)
journal i es = flat_map (λ e. if e.agent == i then e.takes ∷ [] else []) es

-- two lists of events have the same journals
abbrev pub SameJournals : List Event → List Event → Type 0
SameJournals es fs = (i : ℕ) → journal i es ≡ journal i fs
