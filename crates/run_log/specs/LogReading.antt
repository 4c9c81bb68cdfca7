-- What a text of event lines is read as: its events, or its first fault.
use Rattle.std.specs.Prelude.{◌≡◌, ℕ, ◌≤◌, List, [], ◌∷◌, Option, Some, None, Result, Ok, Err}
use Rattle.std.specs.List.{All}
use Rattle.dcop_base.specs.Limits.{amount_limit}
use Rattle.problem_text.specs.PlainLines.{Plain, plain_lines}
use Rattle.problem_text.specs.declared.fault.ReportFault.{ReportFault}
use Rattle.problem_text.specs.declared.fault.ReportFault.TheVariants.{Bad, NoMemory}
use Rattle.problem_text.specs.declared.fault.ReportKind.{ReportKind}
use Rattle.problem_text.specs.declared.fault.ReportKind.TheVariants.{BadLine}
use Rattle.problem_text.specs.declared.line_end.LineEnd.{LineEnd}
use Rattle.problem_text.specs.declared.line_end.LineEnd.TheVariants as ends
use Rattle.problem_text.specs.Lines.{words}
use Rattle.run_log.specs.declared.event_line.EventWords.{EventWords}
use Rattle.run_log.specs.declared.log.LogEvent.{LogEvent}
use Rattle.run_log.specs.EventLine.{event_line, event_parts}

-- the event of the line with this number, put before those of later lines; the first fault is kept,
-- with its line
abbrev pub event_before : ℕ → Result LogEvent ReportKind → Result (List LogEvent) ReportFault → Result (List LogEvent) ReportFault
event_before number (Err kind) later = Err (Bad number kind)
event_before number (Ok e) (Err fault) = Err fault
event_before number (Ok e) (Ok log) = Ok (e ∷ log)

-- the events of these lines
abbrev pub events_read : List (List ℕ) → List Plain → Result (List LogEvent) ReportFault
events_read names [] = Ok []
events_read names (line ∷ later) = event_before line.number (event_line names line.words) (events_read names later)

-- the events of a text, whose lines count from 1
abbrev pub log_read : List (List ℕ) → List ℕ → Result (List LogEvent) ReportFault
log_read names bytes = events_read names (plain_lines 1 bytes)

-- the result of reading a line agrees with what the line gives. If memory runs out, nothing is
-- promised
abbrev pub Reads : {A : Type 0} → Result A (LineEnd ReportKind) → Result A ReportKind → Type 0
Reads (Ok x) told = told ≡ Ok x
Reads (Err ends.NoMemory) told = Unit {0}
Reads (Err (ends.Fault kind)) told = told ≡ Err kind

-- the result of reading a text agrees with what the text gives. If memory runs out, nothing is
-- promised
abbrev pub ReadsLog : Result (List LogEvent) ReportFault → Result (List LogEvent) ReportFault → Type 0
ReadsLog (Ok log) told = told ≡ Ok log
ReadsLog (Err NoMemory) told = Unit {0}
ReadsLog (Err (Bad line kind)) told = told ≡ Err (Bad line kind)

-- the parts of an event's line agree with the line: if there are none, the line does not have the
-- form
abbrev pub IsEventOf : List (List ℕ) → Option EventWords → Type 0
IsEventOf ws None = (names : List (List ℕ)) → event_line names ws ≡ Err BadLine
IsEventOf ws (Some l) = (names : List (List ℕ)) → event_line names ws ≡ event_parts names l.agent.now l.stamp.now (words l.pairs.now)

-- what the line with this number gives: its event, or its fault with the number
abbrev pub IsTold : ℕ → Result LogEvent (LineEnd ReportKind) → Result LogEvent ReportFault → Type 0
IsTold number (Ok e) result = result ≡ Ok e
IsTold number (Err ends.NoMemory) result = result ≡ Err NoMemory
IsTold number (Err (ends.Fault kind)) result = result ≡ Err (Bad number kind)

-- a text is read as this log if no stamp is above amount_limit
abbrev pub IsReadBack : List (List ℕ) → List ℕ → List LogEvent → Type 0
IsReadBack names bytes log = All (λ e. e.stamp ≤ amount_limit) log → log_read names bytes ≡ Ok log
