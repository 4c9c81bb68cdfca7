-- The result of reading the log of a report: the log, or the answer that refuses it.
use Rattle.std.specs.Prelude.{◌≡◌, ℕ, ◌+◌, ◌≤◌, List, Option, Some, Result, Ok, Err}
use Rattle.std.specs.List.{All}
use Rattle.dcop_base.specs.Limits.{amount_limit}
use Rattle.problem_text.specs.Kinds.{number_of_report}
use Rattle.problem_text.specs.declared.fault.ReportKind.TheVariants.{NoLog}
use Rattle.run_log.specs.LogText.{FitsEvent}
use Rattle.certificate_text.specs.declared.certificate.Certificate.{Certificate}
use Rattle.certificate_text.specs.declared.certificate.Certificate.TheVariants.{Log}
use Rattle.certificate_text.specs.declared.report.Report.{Report}
use Rattle.report_reader.specs.ReportLines.{Fault}
use Rattle.solve_report.specs.declared.answer.Answer.TheVariants.{ReportText}
use Rattle.solve_report.specs.AnswerText.{HasText}
use Rattle.solve_printed.specs.CertificateLine.{certificate_line}
use Rattle.solve_printed.specs.declared.reading.LogRead.{LogRead}
use Rattle.solve_printed.specs.declared.reading.LogRead.TheVariants.{Log as Given, Refused}

-- the result for a report with this error and this certificate, whose text comes after `before`
-- lines: its log, with the error; or the refusal of a report without a log
abbrev pub IsPrintedLog : ℕ → List ℕ → ℕ → Option Certificate → LogRead → Type 0
IsPrintedLog before text error (Some (Log log)) read = read ≡ Given error log
IsPrintedLog before text error certificate read = read ≡ Refused (ReportText (before + certificate_line text) (number_of_report NoLog))

-- the result for the text of a report, given what it is read as: that of the report, or the first
-- fault of the text, whose line counts from the beginning of the input
abbrev pub IsLogRead : ℕ → List ℕ → Result Report Fault → LogRead → Type 0
IsLogRead before text (Ok report) read = IsPrintedLog before text report.error report.certificate read
IsLogRead before text (Err fault) read = read ≡ Refused (ReportText (before + fault.line) (number_of_report fault.kind))

-- the log that was read can be played: its error is at most amount_limit, and its events fit
-- `count` agents; or there is only an answer, which has a text
abbrev pub IsPlayable : ℕ → LogRead → Type 0
IsPlayable count (Given error log) = (error ≤ amount_limit) × All (FitsEvent count) log
IsPlayable count (Refused answer) = HasText answer
