-- The text of a trace: what each agent took, the state it reached and what it sent, at its start
-- and in each event of a run.
use Rattle.std.specs.Prelude.{◌≡◌, ℕ, ◌+◌, List, [], ◌∷◌, ◌++◌, map, length, codes, Some, Result, Ok, Err, ◌==◌, nat_le, if◌then◌else◌, slice_get}
use Rattle.std.specs.List.{flat_map, range_with_len}
use Rattle.std.specs.Fmt.{decimal}
use Rattle.protocol_steps.specs.Network.{Network, sent_at, batch}
use Rattle.protocol_steps.specs.Effect.{effect, event_sends}
use Rattle.protocol_steps.specs.Run.{run}
use Rattle.problem_text.specs.Canonical.{line}
use Rattle.run_log.specs.declared.log.LogEvent.{LogEvent}
use Rattle.run_log.specs.Logs.{event_of, events_of}
use Rattle.delivery_core.specs.declared.replaying.ReplayFault.{ReplayFault}
use Rattle.delivery_core.specs.Faults.{Replays}
use Rattle.trace_text.specs.Lines.{took_words, sent_words, agent_lines, start_words, event_words}

-- the start of agent `i`: its state, and what it sent
abbrev pub start_of : List (List ℕ) → Network → ℕ → List (List (List ℕ))
start_of names net i =
    start_words names i ∷ agent_lines names (slice_get net.views i)
    ++ map (sent_words names) (sent_at (slice_get net.desks i))

-- the starts of all agents, in order, in the network in which all have started
abbrev pub start_lines : List (List ℕ) → Network → List (List (List ℕ))
start_lines names net = flat_map (start_of names net) (range_with_len 0 (length net.views))

-- the event with this number in a network: what its agent took, its state after the event, and what
-- it sent
abbrev pub lines_of_event : List (List ℕ) → Network → ℕ → LogEvent → List (List (List ℕ))
lines_of_event names net number e =
    event_words names number e ∷ map (took_words names) (batch net.desks e.agent e.takes)
    ++ agent_lines names (slice_get (effect net (event_of e)).views e.agent)
    ++ map (sent_words names) (event_sends net (event_of e))

-- the lines of the events of a run from this network, the first of which has this number; only
-- those with a number from `from` on are written
abbrev pub event_lines : List (List ℕ) → ℕ → Network → ℕ → List LogEvent → List (List (List ℕ))
event_lines names from net number [] = []
event_lines names from net number (e ∷ es) =
    (if nat_le from number then lines_of_event names net number e else [])
    ++ event_lines names from (effect net (event_of e)) (number + 1) es

-- the lines of a trace of these events, from the network in which all agents have started: how many
-- events there are, the starts if `from` is 0, the events, and `end`
abbrev pub trace_lines : List (List ℕ) → ℕ → Network → List LogEvent → List (List (List ℕ))
trace_lines names from net log =
    ((codes "status" ∷ codes "trace" ∷ []) ∷ (codes "events" ∷ decimal (length log) ∷ []) ∷ [])
    ++ (if from == 0 then start_lines names net else [])
    ++ event_lines names from net 1 log
    ++ ((codes "end" ∷ []) ∷ [])

-- the text of a trace
abbrev pub trace_text : List (List ℕ) → ℕ → Network → List LogEvent → List ℕ
trace_text names from net log = flat_map line (trace_lines names from net log)

-- these events are a run from this network, and this is the text of its trace; or this is the first
-- event that is not lawful
abbrev pub Traces : List (List ℕ) → ℕ → Network → List LogEvent → Result (List ℕ) ReplayFault → Type 0
Traces names from net log (Ok text) = (end : Network) × (run net (events_of log) ≡ Some end) × (text ≡ trace_text names from net log)
Traces names from net log (Err fault) = Replays net (events_of log) (Err fault)
