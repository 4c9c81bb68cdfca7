use Rattle.std.proofs.Common.{◌≡◌, [], length}
use Rattle.report_reader.specs.ReportReading.{events_read}
use Rattle.report_reader.proofs.reader.read_events.Given as goal

-- what is left, read behind the events, is all of them
abbrev pub invariant-loop-line : goal.invariant-loop-line
invariant-loop-line l =
    events_read l.file.names l.lines.over l.events.items l.lines.lines
    ≡ events_read l.file.names l.fn.lines.over [] l.fn.lines.lines

abbrev pub decreases-loop-line : goal.decreases-loop-line
decreases-loop-line l = length l.lines.lines
