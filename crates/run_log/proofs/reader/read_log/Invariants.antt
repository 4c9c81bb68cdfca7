use Rattle.std.proofs.Common.{◌≡◌, ◌<◌, ◌+◌, ◌^◌, length}
use Rattle.problem_text.specs.PlainLines.{plain_lines}
use Rattle.run_log.specs.LogReading.{events_read, log_read}
use Rattle.run_log.proofs.EventLineLaws.{after_events}
use Rattle.run_log.proofs.reader.read_log.Given as goal

-- the events, with those of the lines that are left, are all
abbrev pub invariant-loop-line : goal.invariant-loop-line
invariant-loop-line l =
    (l.number + length l.rest < 2 ^ 64)
    × (after_events l.events.items (events_read l.names (plain_lines l.number l.rest)) ≡ log_read l.names l.bytes)

abbrev pub decreases-loop-line : goal.decreases-loop-line
decreases-loop-line l = length l.rest
