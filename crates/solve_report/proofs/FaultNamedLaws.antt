-- A fault of an event speaks of a sender among the event's own.
use Rattle.std.proofs.Common.{ℕ, ◌<◌, Bool, true, false, not, cond, Option, Some, None, List, [], ◌∷◌, length, nat_lt, nat_le}
use Rattle.std.specs.Prelude.{IfSome}
use Rattle.std.specs.List.{All, slice_get, list_any}
use Rattle.std.proofs.lemmas.List.Elements.{All-head, All-tail}
use Rattle.protocol_steps.specs.declared.event.Take.{Take}
use Rattle.protocol_steps.specs.declared.event.Event.{Event}
use Rattle.protocol_steps.specs.declared.event.EventFault.{EventFault}
use Rattle.protocol_steps.specs.declared.event.EventFault.TheVariants.{Nobody, Ended, Nothing, Order, TooMany}
use Rattle.protocol_steps.specs.View.{View, ended_of}
use Rattle.protocol_steps.specs.Network.{Desk, Network, waiting}
use Rattle.protocol_steps.specs.Run.{or_else, has_nothing, ascends_from, form_fault, too_many, fault_at, event_fault}
use Rattle.solve_report.specs.Verdict.{IsNamedFault}

-- the fault of an event, where there is one, speaks of a sender among so many
abbrev pub IsFaultNamed : ℕ → Option EventFault → Type 0
IsFaultNamed n o = IfSome o (IsNamedFault n)

first-fault : (n : ℕ) (t : Bool) (fault : EventFault) (later : Option EventFault) → IsNamedFault n fault → IsFaultNamed n later → IsFaultNamed n (cond t (Some fault) later)
first-fault n true fault later here behind = here
first-fault n false fault later here behind = behind

else-fault : (n : ℕ) (a b : Option EventFault) → IsFaultNamed n a → IsFaultNamed n b → IsFaultNamed n (or_else a b)
else-fault n None b of_a of_b = of_b
else-fault n (Some fault) b of_a of_b = of_a

many-named : (n : ℕ) (ds : List Desk) (i : ℕ) (ts : List Take) → All (λ t. t.from < n) ts → IsFaultNamed n (too_many ds i ts)
many-named n ds i [] named = tt
many-named n ds i (t ∷ ts) named =
    first-fault n (nat_lt (length (waiting ds i t.from)) t.count) (TooMany t.from t.count (length (waiting ds i t.from))) (too_many ds i ts)
    (All-head (λ u. u.from < n) t ts named) (many-named n ds i ts (All-tail (λ u. u.from < n) t ts named))

form-named : (n count : ℕ) (ended : Bool) (ts : List Take) → IsFaultNamed n (form_fault count ended ts)
form-named n count ended ts =
    first-fault n (list_any (λ t. nat_le count t.from) ts) Nobody _ tt
    (first-fault n ended Ended _ tt
    (first-fault n (has_nothing ts) Nothing _ tt
    (first-fault n (not (ascends_from 0 ts)) Order None tt tt)))

place-named : (n : ℕ) (ds : List Desk) (e : Event) (view : Option View) (desk : Option Desk) → All (λ t. t.from < n) e.takes → IsFaultNamed n (fault_at ds e view desk)
place-named n ds e None desk named = tt
place-named n ds e (Some v) None named = tt
place-named n ds e (Some v) (Some x) named =
    else-fault n (form_fault (length ds) (ended_of v) e.takes) (too_many ds e.agent e.takes) (form-named n (length ds) (ended_of v) e.takes) (many-named n ds e.agent e.takes named)

-- the fault of an event whose senders are among so many
pub event-named : (n : ℕ) (net : Network) (e : Event) → All (λ t. t.from < n) e.takes → IsFaultNamed n (event_fault net e)
event-named n net e named = place-named n net.desks e (slice_get net.views e.agent) (slice_get net.desks e.agent) named
