-- The lines of a start and of an event, by the core state after it.
use Rattle.std.specs.Prelude.{◌≡◌, ℕ, ◌+◌, List, ◌∷◌, ◌++◌, map, take, drop, Option, Some, None, Result, Ok, Err}
use Rattle.std.specs.List.{flat_map}
use Rattle.dcop_base.specs.Problem.{Dcop}
use Rattle.protocol_steps.specs.declared.message.Message.{Message}
use Rattle.protocol_steps.specs.declared.event.EventFault.{EventFault}
use Rattle.protocol_steps.specs.Network.{Network}
use Rattle.protocol_steps.specs.Run.{run}
use Rattle.problem_text.specs.Canonical.{line}
use Rattle.run_log.specs.declared.log.LogEvent.{LogEvent}
use Rattle.run_log.specs.Logs.{event_of, events_of}
use Rattle.delivery_core.specs.declared.replaying.ReplayFault.{ReplayFault}
use Rattle.delivery_core.specs.declared.replaying.ReplayFault.TheVariants.{BadEvent, NoMemory}
use Rattle.delivery_core.specs.State.{CoreView, view_at}
use Rattle.delivery_core.specs.Exchanges.{Exchanges}
use Rattle.delivery_core.specs.Faults.{FirstFault}
use Rattle.delivery_core.specs.Shown.{IsCore, Advances, Refuses}
use Rattle.trace_text.specs.Lines.{took_words, sent_words, agent_lines, start_words, event_words}
use Rattle.trace_text.specs.Trace.{event_lines}

-- the lines of the start of an agent that sent these messages
abbrev pub start_told : List (List ℕ) → CoreView → ℕ → List (ℕ × Message) → List (List (List ℕ))
start_told names core i sent = start_words names i ∷ agent_lines names (view_at core i) ++ map (sent_words names) sent

-- the lines of the event with this number that led to this core state, in which its agent took and
-- sent these messages
abbrev pub event_told : List (List ℕ) → CoreView → ℕ → LogEvent → List (ℕ × Message) → List (ℕ × Message) → List (List (List ℕ))
event_told names core number e took sent =
    event_words names number e ∷ map (took_words names) took ++ agent_lines names (view_at core e.agent) ++ map (sent_words names) sent

-- the event leads from one core state to another, or has this fault
abbrev pub PlaysEvent : CoreView → LogEvent → CoreView → Option EventFault → Type 0
PlaysEvent old e new None = Advances old (event_of e) new
PlaysEvent old e new (Some fault) = Refuses old (event_of e) fault

-- the event with this number led from one core state to another, and its lines were added to the
-- text
pub record TellsOne (names : List (List ℕ)) (before : CoreView) (number : ℕ) (e : LogEvent) (after : CoreView) (old new : List ℕ) : Type 0 where
  pub took : List (ℕ × Message)
  pub sent : List (ℕ × Message)
  pub exchanges : Exchanges before (event_of e) took sent
  pub told : new ≡ old ++ flat_map line (event_told names after number e took sent)

-- the first `k` events of a log are a run from this network to this core state, and the text has
-- become one that gives all lines of the log when those of the events that are left are added
pub record Played (p : Dcop) (first : Network) (names : List (List ℕ)) (from : ℕ) (log : List LogEvent) (k : ℕ) (core : CoreView) (old text : List ℕ) : Type 0 where
  pub net : Network
  pub ran : run first (take k (events_of log)) ≡ Some net
  pub core_is : IsCore p net core
  pub told : text ++ flat_map line (event_lines names from net (k + 1) (drop k log)) ≡ old ++ flat_map line (event_lines names from first 1 log)

-- the events of a log are a run from this network, and their lines were added to the text; or the
-- result is the first event that is not lawful
abbrev pub TellsFrom : {A : Type 0} → Network → List (List ℕ) → ℕ → List LogEvent → List ℕ → List ℕ → Result A ReplayFault → Type 0
TellsFrom net names from log old new (Ok x) = (end : Network) × (run net (events_of log) ≡ Some end) × (new ≡ old ++ flat_map line (event_lines names from net 1 log))
TellsFrom net names from log old new (Err (BadEvent at fault)) = (place : ℕ) × (at ≡ place + 1) × FirstFault net (events_of log) place fault
TellsFrom net names from log old new (Err NoMemory) = Unit {0}

-- the same for each network that the core state may be
abbrev pub TellsEvent : {A : Type 0} → List (List ℕ) → ℕ → List LogEvent → CoreView → List ℕ → List ℕ → Result A ReplayFault → Type 0
TellsEvent names from log core old new result = (p : Dcop) (net : Network) → IsCore p net core → TellsFrom net names from log old new result
