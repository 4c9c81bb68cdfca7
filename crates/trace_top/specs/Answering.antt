-- Which reply of `dcop_trace` belongs to which words and input; refusals are those of `dcop
-- replay`.
use Rattle.std.specs.Prelude.{◌≡◌, ℕ, ◌+◌, List, take, drop, Option, Some, Result, Ok, Err}
use Rattle.dcop_base.specs.Whole.{IsProblem}
use Rattle.protocol_steps.specs.Network.{Network, start_state}
use Rattle.protocol_steps.specs.Run.{run}
use Rattle.problem_text.specs.Declarations.{Declared}
use Rattle.problem_text.specs.File.{TextFile, IsFile}
use Rattle.problem_text.specs.Kinds.{number_of_report}
use Rattle.problem_text.specs.Reading.{Parts}
use Rattle.problem_text.specs.Steps.{declared_by}
use Rattle.problem_text.specs.declared.fault.ReportKind.TheVariants.{NoLog}
use Rattle.run_log.specs.declared.log.LogEvent.{LogEvent}
use Rattle.run_log.specs.Logs.{events_of}
use Rattle.certificate_text.specs.declared.certificate.Certificate.{Certificate}
use Rattle.certificate_text.specs.declared.certificate.Certificate.TheVariants.{Log}
use Rattle.certificate_text.specs.declared.report.Report.{Report}
use Rattle.certificate_text.specs.declared.verdict.Differs.TheVariants.{Event as Unlawful}
use Rattle.certificate_text.specs.declared.verdict.Verdict.TheVariants.{No}
use Rattle.report_reader.specs.ReportLines.{Fault}
use Rattle.report_reader.specs.ReportReading.{report_read}
use Rattle.minimised_problem.specs.LogHolds.{agents_for}
use Rattle.solve_report.specs.declared.answer.Answer.{Answer}
use Rattle.solve_report.specs.declared.answer.Answer.TheVariants as answers
use Rattle.solve_printed.specs.CertificateLine.{certificate_line}
use Rattle.solve_printed.specs.Replaying.{log_up_to, TellsEventFault}
use Rattle.answer_io.specs.declared.status.Status.TheVariants as statuses
use Rattle.answer_io.specs.Fronts.{lines_in}
use Rattle.program_frame.specs.declared.reply.Reply.{Reply}
use Rattle.program_frame.specs.declared.reply.Reply.TheVariants.{Own, Refused}
use Rattle.trace_text.specs.Trace.{trace_text}
use Rattle.trace_top.specs.declared.words.Asked.{Asked}

-- the reply to a trace of these events, the first of a log, from a network of a file's agents: its
-- text from the event with number `from` on, or the first event that is not lawful
abbrev pub IsTrace : TextFile → ℕ → Network → List LogEvent → Reply → Type 0
IsTrace file from net log (Own text status) =
    ((end : Network) × (run net (events_of log) ≡ Some end) × (text ≡ trace_text file.names from net log)) × (status ≡ statuses.Solved)
IsTrace file from net log (Refused (answers.Verdict (No (Unlawful at fault)) names)) = (names ≡ file.names) × TellsEventFault net (events_of log) at fault
IsTrace file from net log reply = ⊥

-- the reply to a report with this error and this certificate, whose text follows `before` lines: a
-- trace of its log by the ADOPT agents of the problem solved, or that it has no log
abbrev pub IsTraceOf : TextFile → ℕ → List ℕ → Asked → ℕ → Option Certificate → Reply → Type 0
IsTraceOf file before text asked error (Some (Log log)) reply = IsTrace file asked.from (start_state (agents_for file error)) (log_up_to (Some asked.to) log) reply
IsTraceOf file before text asked error certificate reply = reply ≡ Refused (answers.ReportText (before + certificate_line text) (number_of_report NoLog))

-- the reply to a report whose text is read as this: a trace of its log, or the first fault of the
-- text, whose lines count on from `before`
abbrev pub IsReadTrace : TextFile → ℕ → List ℕ → Asked → Result Report Fault → Reply → Type 0
IsReadTrace file before text asked (Ok report) reply = IsTraceOf file before text asked report.error report.certificate reply
IsReadTrace file before text asked (Err fault) reply = reply ≡ Refused (answers.ReportText (before + fault.line) (number_of_report fault.kind))

-- the reply to the text of a report; before it stands the text of a problem, which has `before`
-- lines and declares this
pub record RepliesTrace (d : Declared) (before : ℕ) (text : List ℕ) (asked : Asked) (reply : Reply) : Type 0 where
  pub file : TextFile
  pub is_file : IsFile file
  pub whole : IsProblem file.problem
  pub declared : declared_by file ≡ d
  pub is : IsReadTrace file before text asked (report_read text file) reply

-- the reply to a text whose problem is read as this
abbrev pub IsTextReply : List ℕ → Asked → Result Parts Answer → Reply → Type 0
IsTextReply bytes asked (Ok parts) reply = RepliesTrace parts.declared (lines_in (take parts.used bytes)) (drop parts.used bytes) asked reply
IsTextReply bytes asked (Err refusal) reply = reply ≡ Refused refusal
