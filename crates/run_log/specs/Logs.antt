-- Logs: events of all agents, each with its stamp.
use Rattle.std.specs.Prelude.{◌≡◌, ℕ, ◌<◌, ◌≤◌, ◌⊎◌, List, map, length}
use Rattle.std.specs.List.{AllAdjacentBelow}
use Rattle.protocol_steps.specs.declared.event.Event.{Event}
use Rattle.protocol_steps.specs.declared.event.Entry.{Entry}
use Rattle.run_log.specs.declared.log.LogEvent.{LogEvent}

-- an event of a log as an agent's entry
abbrev pub entry_of : LogEvent → ℕ × Entry
entry_of e = (e.agent, record { stamp = e.stamp; takes = e.takes })

-- the entries of a log, each with its agent
abbrev pub entries_of : List LogEvent → List (ℕ × Entry)
entries_of log = map entry_of log

-- an event of a log as an event of a run
abbrev pub event_of : LogEvent → Event
event_of e = record { agent = e.agent; takes = e.takes }

-- the events of a log
abbrev pub events_of : List LogEvent → List Event
events_of log = map event_of log

-- an event is no later than another: its stamp is lower, or the stamps are equal and its agent is
-- not higher
abbrev pub IsNoLater : LogEvent → LogEvent → Type 0
IsNoLater a b = (a.stamp < b.stamp) ⊎ ((a.stamp ≡ b.stamp) × (a.agent ≤ b.agent))

-- events are in order of stamp and then agent; two events may agree in both
abbrev pub AreByStamp : List LogEvent → Type 0
AreByStamp log = AllAdjacentBelow IsNoLater log (length log)
