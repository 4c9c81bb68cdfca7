-- The program `dcop_trace`: its replies, and the texts that it accepts.
use Rattle.std.specs.Prelude.{◌≡◌, ℕ, List, drop, Some, Ok}
use Rattle.dcop_base.specs.Whole.{IsProblem}
use Rattle.protocol_steps.specs.Network.{Network, start_state}
use Rattle.protocol_steps.specs.Run.{run}
use Rattle.problem_text.specs.File.{TextFile, IsFile}
use Rattle.problem_text.specs.Reading.{Parts}
use Rattle.problem_text.specs.Steps.{declared_by}
use Rattle.run_log.specs.declared.log.LogEvent.{LogEvent}
use Rattle.run_log.specs.Logs.{events_of}
use Rattle.certificate_text.specs.declared.certificate.Certificate.TheVariants.{Log}
use Rattle.certificate_text.specs.declared.report.Report.{Report}
use Rattle.report_reader.specs.ReportReading.{report_read}
use Rattle.minimised_problem.specs.LogHolds.{agents_for}
use Rattle.answer_io.specs.declared.status.Status.TheVariants as statuses
use Rattle.answer_io.specs.Fronts.{front_read}
use Rattle.solve_printed.specs.Replaying.{log_up_to}
use Rattle.program_frame.specs.Program.{Program, RepliesAreOne}
use Rattle.trace_top.specs.Answering.{IsTextReply}
use Rattle.trace_top.specs.Words.{trace_answer_to}
use Rattle.trace_top.specs.declared.words.Asked.{Asked}

-- a text is a report on a file, with a log whose events, up to the last one asked for, are a run of
-- the ADOPT agents of the problem solved
pub record TellsRun (asked : Asked) (text : List ℕ) (file : TextFile) : Type 0 where
  pub report : Report
  pub read : report_read text file ≡ Ok report
  pub log : List LogEvent
  pub given : report.certificate ≡ Some (Log log)
  pub end : Network
  pub ran : run (start_state (agents_for file report.error)) (events_of (log_up_to (Some asked.to) log)) ≡ Some end

-- a text is a problem, followed by a report with the log of a run
pub record IsTraceable (asked : Asked) (text : List ℕ) : Type 0 where
  pub parts : Parts
  pub front : front_read asked.format text ≡ Ok parts
  pub runs : (file : TextFile) → IsFile file → IsProblem file.problem → declared_by file ≡ parts.declared → TellsRun asked (drop parts.used text) file

-- the program `dcop_trace`
abbrev pub trace_program : Program Asked
trace_program = record {
  asked = trace_answer_to;
  replies = λ asked bytes. IsTextReply bytes asked (front_read asked.format bytes);
  accepts = IsTraceable;
  ends = λ status. status ≡ statuses.Solved;
}

-- the same words and the same input have one reply, and so one text
abbrev pub TraceAnswersAreOne : Type 0
TraceAnswersAreOne = RepliesAreOne trace_program
