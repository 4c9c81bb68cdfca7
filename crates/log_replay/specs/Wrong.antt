-- What is wrong with the stamp of an event, given what is kept of the event before it.
use Rattle.std.specs.Prelude.{ℕ, ◌||◌, ◌&&◌, Option, Some, None, ◌==◌, nat_lt, if◌then◌else◌}
use Rattle.run_log.specs.declared.log.LogEvent.{LogEvent}
use Rattle.run_log.specs.LogStamps.{StampDifference}
use Rattle.log_replay.specs.declared.fault.WrongStamp.{WrongStamp}
use Rattle.log_replay.specs.declared.wrong.Moment.{Moment}

-- a wrong stamp in the form in which the code gives it, turned into the `StampDifference` of the
-- definitions
abbrev pub difference_of : WrongStamp → StampDifference
difference_of w = record { event = w.at; left = w.left; right = w.right }

-- the position of an event in the order of a log
abbrev pub moment_of : LogEvent → Moment
moment_of e = record { agent = e.agent; stamp = e.stamp }

-- what is wrong with an event's position after the moment before it
abbrev pub place_fault : ℕ → Option Moment → LogEvent → Option WrongStamp
place_fault k None e = None
place_fault k (Some m) e =
    if nat_lt m.stamp e.stamp || (m.stamp == e.stamp && nat_lt m.agent e.agent) then None else Some (record { at = k; left = e.stamp; right = m.stamp })

-- what is wrong with an event whose right stamp is this one
abbrev pub stamp_fault : ℕ → ℕ → Option Moment → LogEvent → Option WrongStamp
stamp_fault k right before e = if e.stamp == right then place_fault k before e else Some (record { at = k; left = e.stamp; right = right })
