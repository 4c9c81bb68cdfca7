-- The answer to replaying the text of a report on a file.
use Rattle.std.specs.Prelude.{◌≡◌, ℕ, ◌+◌, List, length, take, Option, Some, None, Result, Ok, Err}
use Rattle.dcop_base.specs.Whole.{IsProblem}
use Rattle.protocol_steps.specs.declared.event.Event.{Event}
use Rattle.protocol_steps.specs.declared.event.EventFault.{EventFault}
use Rattle.protocol_steps.specs.Network.{Network, start_state}
use Rattle.protocol_steps.specs.Run.{run}
use Rattle.problem_text.specs.Declarations.{Declared}
use Rattle.problem_text.specs.File.{TextFile, IsFile}
use Rattle.problem_text.specs.Kinds.{number_of_report}
use Rattle.problem_text.specs.Steps.{declared_by}
use Rattle.problem_text.specs.declared.fault.ReportKind.TheVariants.{NoLog}
use Rattle.run_log.specs.declared.log.LogEvent.{LogEvent}
use Rattle.run_log.specs.Logs.{events_of}
use Rattle.certificate_text.specs.declared.certificate.Certificate.{Certificate}
use Rattle.certificate_text.specs.declared.certificate.Certificate.TheVariants.{Log}
use Rattle.certificate_text.specs.declared.report.Report.{Report}
use Rattle.certificate_text.specs.declared.verdict.Differs.TheVariants.{Event as Unlawful}
use Rattle.certificate_text.specs.declared.verdict.Verdict.TheVariants.{No}
use Rattle.report_reader.specs.ReportLines.{Fault}
use Rattle.report_reader.specs.ReportReading.{report_read}
use Rattle.minimised_problem.specs.LogHolds.{agents_for}
use Rattle.delivery_core.specs.Faults.{FirstFault}
use Rattle.delivery_core.specs.declared.replaying.ReplayFault.{ReplayFault}
use Rattle.delivery_core.specs.declared.replaying.ReplayFault.TheVariants.{BadEvent, NoMemory}
use Rattle.solve_report.specs.declared.answer.Answer.{Answer}
use Rattle.solve_report.specs.declared.answer.Answer.TheVariants as answers
use Rattle.solve_report.specs.declared.replay.AgentRow.{AgentRow}
use Rattle.solve_printed.specs.CertificateLine.{certificate_line}
use Rattle.solve_printed.specs.Rows.{rows_from}

-- the events of a log that are replayed: the first `after`, or all if no number is given
abbrev pub log_up_to : Option ℕ → List LogEvent → List LogEvent
log_up_to None log = log
log_up_to (Some after) log = take after log

-- these events are a run from this network; `events` is their number, and `agents` are the states
-- of the agents after them
pub record TellsState (net : Network) (es : List Event) (events : ℕ) (agents : List AgentRow) : Type 0 where
  pub state : Network
  pub ran : run net es ≡ Some state
  pub count : events ≡ length es
  pub rows : agents ≡ rows_from 0 state.views

-- the event with this number, counted from 1, is the first of these that is not lawful, and this is
-- its fault
abbrev pub TellsEventFault : Network → List Event → ℕ → EventFault → Type 0
TellsEventFault net es at fault = (place : ℕ) × (at ≡ place + 1) × FirstFault net es place fault

-- the answer that says why events are not a run, with these names; there is none if memory runs out
abbrev pub IsFaultAnswer : List (List ℕ) → ReplayFault → Answer → Type 0
IsFaultAnswer names (BadEvent at fault) answer = answer ≡ answers.Verdict (No (Unlawful at fault)) names
IsFaultAnswer names NoMemory answer = ⊥

-- the answer to a replay of these events from a network of a file's agents: the states that they
-- lead to, or the first of them that is not lawful
abbrev pub IsReplay : TextFile → Network → List Event → Answer → Type 0
IsReplay file net es (answers.Replay events agents names) = (names ≡ file.names) × TellsState net es events agents
IsReplay file net es (answers.Verdict (No (Unlawful at fault)) names) = (names ≡ file.names) × TellsEventFault net es at fault
IsReplay file net es answer = ⊥

-- the answer to a report with this error and this certificate, whose text comes after `before`
-- lines: a replay of its log by the ADOPT agents of the problem solved, or the refusal of a report
-- without a log
abbrev pub IsReplayOf : TextFile → ℕ → List ℕ → Option ℕ → ℕ → Option Certificate → Answer → Type 0
IsReplayOf file before text after error (Some (Log log)) answer = IsReplay file (start_state (agents_for file error)) (events_of (log_up_to after log)) answer
IsReplayOf file before text after error certificate answer = answer ≡ answers.ReportText (before + certificate_line text) (number_of_report NoLog)

-- the answer given what the text of a report was read as: a replay of the report's log, or the
-- first fault of the text, whose line counts from the beginning of the input
abbrev pub IsReadReplay : TextFile → ℕ → List ℕ → Option ℕ → Result Report Fault → Answer → Type 0
IsReadReplay file before text after (Ok report) answer = IsReplayOf file before text after report.error report.certificate answer
IsReadReplay file before text after (Err fault) answer = answer ≡ answers.ReportText (before + fault.line) (number_of_report fault.kind)

-- the answer to the text of a report, after the text of a problem that has `before` lines and
-- declares this
pub record AnswersReplay (d : Declared) (before : ℕ) (text : List ℕ) (after : Option ℕ) (answer : Answer) : Type 0 where
  pub file : TextFile
  pub is_file : IsFile file
  pub whole : IsProblem file.problem
  pub declared : declared_by file ≡ d
  pub is : IsReadReplay file before text after (report_read text file) answer
