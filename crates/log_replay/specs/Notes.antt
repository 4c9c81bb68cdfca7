-- What is kept of a run while its agents are played: the stamps, and each agent's journal.
use Rattle.std.specs.Prelude.{◌≡◌, ℕ, ◌<◌, ◌≤◌, List, [], ◌∷◌, ◌++◌, map, length, replicate, max, Option, Some, None, IfSome, is_some, slice_set}
use Rattle.std.specs.List.{fold}
use Rattle.dcop_base.specs.Limits.{variable_limit, amount_limit}
use Rattle.dcop_base.specs.Problem.{Dcop}
use Rattle.protocol_steps.specs.declared.message.Message.{Message}
use Rattle.protocol_steps.specs.declared.event.Take.{Take}
use Rattle.protocol_steps.specs.declared.event.Entry.{Entry}
use Rattle.protocol_steps.specs.declared.event.Event.{Event}
use Rattle.protocol_steps.specs.View.{View}
use Rattle.protocol_steps.specs.Network.{Network, start_state}
use Rattle.protocol_steps.specs.Effect.{effect}
use Rattle.protocol_steps.specs.Run.{SameJournals, event_fault, run}
use Rattle.protocol_steps.specs.Stamps.{Deed, Account}
use Rattle.protocol_steps.specs.Deeds.{event_of, AreDeeds, deeds_of, after_all, posted_to}
use Rattle.protocol_steps.specs.StampLaw.{TakenIsPrefix, Shows}
use Rattle.protocol_steps.specs.JournalStamps.{AreStarts, journal_at}
use Rattle.worker_laws.specs.Acts.{journal_of}
use Rattle.run_log.specs.declared.log.LogEvent.{LogEvent}
use Rattle.run_log.specs.Logs.{events_of}
use Rattle.run_log.specs.LogStamps.{LinkStamps}
use Rattle.run_log.specs.Laws.{IsStampedRun}
use Rattle.delivery_core.specs.State.{CoreView}
use Rattle.delivery_core.specs.Shown.{IsCore}
use Rattle.log_replay.specs.Queues.{StampsView, stamp_by, stamps_taken, stamps_sent, first_stamps}
use Rattle.log_replay.specs.Following.{AreStamps}

-- the stamps of a run up to the current event, and each agent's journal
pub record NotesView : Type 0 where
  pub stamps : StampsView
  pub journals : List (List Entry)

-- the stamps of messages
abbrev pub stamps_in : List (ℕ × Message) → List ℕ
stamps_in es = map (λ e. e.0) es

-- the journals after an entry was added to that of agent i
abbrev pub entered : ℕ → Entry → List (List Entry) → List (List Entry)
entered i e journals = slice_set journals i (journal_at journals i ++ e ∷ [])

-- the notes where all agents have started
abbrev pub first_notes : Dcop → CoreView → NotesView
first_notes p s = record { stamps = first_stamps p s; journals = replicate (length p.sizes) [] }

-- the notes after agent i has made these takes in an event that has led to this core state
abbrev pub noted : CoreView → ℕ → List Take → NotesView → NotesView
noted s i ts v = record {
  stamps = stamps_sent s i (stamp_by v.stamps i ts) (stamps_taken i ts v.stamps);
  journals = entered i (record { stamp = stamp_by v.stamps i ts; takes = ts }) v.journals;
}

-- the notes are those of a run: of agents made with these views, with these events, to this
-- network. Each agent's account allows its activations, and so their stamps are right; the accounts
-- show the network; the stamps on the links are those of the accounts, and none is above the number
-- of events; and each agent's journal has its activations
pub record AreNotes (p : Dcop) (made : List View) (es : List Event) (net : Network) (v : NotesView) : Type 0 where
  pub agents : length made ≡ length p.sizes
  pub now : ℕ → Account
  pub starts : AreStarts made now
  pub deeds : List Deed
  pub events : map event_of deeds ≡ es
  pub allowed : (i : ℕ) → AreDeeds (length made) (now i) (deeds_of i deeds)
  pub shows : Shows (length made) net (after_all now deeds)
  pub prefix : TakenIsPrefix (after_all now deeds)
  pub marks : LinkStamps
  pub last : (i : ℕ) → i < length made → marks.last i ≡ (after_all now deeds i).stamp
  pub sent : (i j : ℕ) → i < length made → j < length made → marks.sent i j ≡ stamps_in (posted_to i (after_all now deeds j).posted)
  pub few : (i : ℕ) → marks.last i ≤ length es
  pub bounded : (i j : ℕ) → fold max 0 (marks.sent i j) ≤ length es
  pub stamps : AreStamps p net marks v.stamps
  pub sized : length v.journals ≡ length made
  pub journals : (i : ℕ) → journal_at v.journals i ≡ journal_of (deeds_of i deeds)

-- the notes of some run of agents made with these views, with these events, to this network, if
-- notes are kept
abbrev pub MayBeNotes : Dcop → List View → List Event → Network → Option NotesView → Type 0
MayBeNotes p made es net notes = IfSome notes (AreNotes p made es net)

-- notes are kept as before; if they were those of a run to a network, they are now those of the
-- same run followed by these events
abbrev pub KeepNotes : Dcop → Network → List Event → Option NotesView → Option NotesView → Type 0
KeepNotes p net es old new =
    (is_some new ≡ is_some old)
    × ((made : List View) (before : List Event) → MayBeNotes p made before net old → MayBeNotes p made (before ++ es) (fold effect net es) new)

-- a lawful event of agent i with these takes has led to this core state; if notes are kept, these
-- are the notes of the run before it, which has fewer events than amount_limit
abbrev pub HasHappened : ℕ → List Take → CoreView → Option NotesView → Type 0
HasHappened i ts s notes =
    (p : Dcop) × (net : Network) × (made : List View) × (before : List Event) × (event_fault net (record { agent = i; takes = ts }) ≡ None)
    × IsCore p (effect net (record { agent = i; takes = ts })) s × MayBeNotes p made before net notes × (length before < amount_limit)

-- the notes after an event of agent i with these takes that has led to this core state
abbrev pub NotesEvent : ℕ → List Take → CoreView → Option NotesView → Option NotesView → Type 0
NotesEvent i ts s old new =
    (p : Dcop) (net : Network) → event_fault net (record { agent = i; takes = ts }) ≡ None → IsCore p (effect net (record { agent = i; takes = ts })) s
    → KeepNotes p net (record { agent = i; takes = ts } ∷ []) old new

-- the notes before any event, if notes are kept
abbrev pub StartNotes : Dcop → CoreView → Option NotesView → Type 0
StartNotes p s notes = (made : List View) → IsCore p (start_state made) s → MayBeNotes p made [] (start_state made) notes

-- the notes of some run of agents of a problem, if notes are kept
abbrev pub AreSomeNotes : Option NotesView → Type 0
AreSomeNotes notes =
    (p : Dcop) × (made : List View) × (es : List Event) × (net : Network) × (length p.sizes ≤ variable_limit) × MayBeNotes p made es net notes

-- the log of a run of agents made with these views, with these events, to this network: each agent
-- has the same events in the log, in the same order, and the log is a run to that network with
-- right stamps
pub record IsLogOfRun (made : List View) (es : List Event) (end : Network) (log : List LogEvent) : Type 0 where
  pub same : SameJournals (events_of log) es
  pub stamped : IsStampedRun made log end

-- a log is that of each run whose notes these are
abbrev pub IsLogBy : NotesView → List LogEvent → Type 0
IsLogBy v log =
    (p : Dcop) (made : List View) (es : List Event) (end : Network) → run (start_state made) es ≡ Some end → AreNotes p made es end v → IsLogOfRun made es end log

-- the log, if there is one, is that of each run whose notes these are
abbrev pub MayBeLogBy : Option NotesView → Option (List LogEvent) → Type 0
MayBeLogBy notes log =
    (p : Dcop) (made : List View) (es : List Event) (end : Network) → run (start_state made) es ≡ Some end → MayBeNotes p made es end notes → IfSome log (IsLogOfRun made es end)
