-- What the log of a report gives, and the answer to a replay of it.
use Rattle.std.proofs.Common.{◌≡◌, ℕ, ◌+◌, ◌≤◌, List, Option, Some, None, Result, Ok, Err, IfSome, sym, ap, subst, ◌∙◌, refl, length}
use Rattle.std.specs.List.{All}
use Rattle.dcop_base.specs.Limits.{amount_limit}
use Rattle.dcop_base.specs.Whole.{IsProblem}
use Rattle.protocol_steps.specs.Network.{start_state}
use Rattle.problem_text.specs.File.{TextFile, IsFile}
use Rattle.problem_text.specs.Steps.{declared_by}
use Rattle.run_log.specs.declared.log.LogEvent.{LogEvent}
use Rattle.run_log.specs.Logs.{events_of}
use Rattle.run_log.specs.LogText.{FitsEvent}
use Rattle.certificate_text.specs.declared.certificate.Certificate.{Certificate}
use Rattle.certificate_text.specs.declared.certificate.Certificate.TheVariants as certificates
use Rattle.certificate_text.specs.declared.report.Report.{Report}
use Rattle.certificate_text.specs.Fits.{FitsCertificate, Fits}
use Rattle.report_reader.specs.ReportLines.{Fault}
use Rattle.report_reader.specs.ReportReading.{report_read}
use Rattle.minimised_problem.specs.LogHolds.{agents_for}
use Rattle.solve_report.specs.declared.answer.Answer.{Answer}
use Rattle.solve_printed.specs.declared.reading.LogRead.{LogRead}
use Rattle.solve_printed.specs.declared.reading.LogRead.TheVariants.{Log, Refused}
use Rattle.solve_printed.specs.LogReads.{IsPrintedLog, IsLogRead}
use Rattle.solve_printed.specs.Replaying.{log_up_to, IsReplay, IsReplayOf, IsReadReplay, AnswersReplay}

-- the events of a log that a report has, which fits its file
pub log-fits : (file : TextFile) (report : Report) (x : Certificate) (log : List LogEvent) → Fits report file → report.certificate ≡ Some x → x ≡ certificates.Log log
    → (report.error ≤ amount_limit) × All (FitsEvent (length file.problem.sizes)) log
log-fits file report x log fits some is =
    let certificate : IfSome (Some (certificates.Log log)) (FitsCertificate file.problem.sizes report.method) =
    subst (λ (c : Option Certificate). IfSome c (FitsCertificate file.problem.sizes report.method)) (some ∙ ap (λ (y : Certificate). Some y) is) fits.certificate in
    (fits.error, certificate.1)

-- a certificate that gives a log has it
log-given : (before : ℕ) (text : List ℕ) (of error : ℕ) (log : List LogEvent) (certificate : Option Certificate) → IsPrintedLog before text of certificate (Log error log)
    → (of ≡ error) × (certificate ≡ Some (certificates.Log log))
log-given before text of error log (Some (certificates.Log own)) is =
    let error_same : error ≡ of = cc in
    let log_same : log ≡ own = cc in
    (sym error_same, ap (λ (l : List LogEvent). Some (certificates.Log l)) (sym log_same))
log-given before text of error log (Some (certificates.Tables utils)) is = cc
log-given before text of error log (Some (certificates.Cut cut turns)) is = cc
log-given before text of error log None is = cc

-- a text whose log is given is read as a report that has it
pub log-in : (before : ℕ) (text : List ℕ) (read : Result Report Fault) (error : ℕ) (log : List LogEvent) → IsLogRead before text read (Log error log)
    → (report : Report) × (read ≡ Ok report) × (report.error ≡ error) × (report.certificate ≡ Some (certificates.Log log))
log-in before text (Ok report) error log is =
    let given = log-given before text report.error error log report.certificate is in
    (report, refl, given.0, given.1)
log-in before text (Err fault) error log is = cc

-- the answer to a replay of a log that a text gives
pub replay-read : (file : TextFile) (before : ℕ) (text : List ℕ) (after : Option ℕ) (error : ℕ) (log : List LogEvent) (answer : Answer) → IsFile file → IsProblem file.problem
    → IsLogRead before text (report_read text file) (Log error log) → IsReplay file (start_state (agents_for file error)) (events_of (log_up_to after log)) answer
    → AnswersReplay (declared_by file) before text after answer
replay-read file before text after error log answer of whole given is =
    let found = log-in before text (report_read text file) error log given in
    let report = found.0 in
    let own : IsReplay file (start_state (agents_for file report.error)) (events_of (log_up_to after log)) answer =
    subst (λ (e : ℕ). IsReplay file (start_state (agents_for file e)) (events_of (log_up_to after log)) answer) (sym found.2) is in
    let by_log : IsReplayOf file before text after report.error report.certificate answer =
    subst (λ (c : Option Certificate). IsReplayOf file before text after report.error c answer) (sym found.3) own in
    record {
      file = file;
      is_file = of;
      whole = whole;
      declared = refl;
      is = subst (λ (r : Result Report Fault). IsReadReplay file before text after r answer) (sym found.1) by_log;
    }

-- a certificate that gives no log
log-refused : (file : TextFile) (before : ℕ) (text : List ℕ) (after : Option ℕ) (error : ℕ) (certificate : Option Certificate) (answer : Answer) → IsPrintedLog before text error certificate (Refused answer)
    → IsReplayOf file before text after error certificate answer
log-refused file before text after error (Some (certificates.Log log)) answer is = cc
log-refused file before text after error (Some (certificates.Tables utils)) answer is = cc
log-refused file before text after error (Some (certificates.Cut cut turns)) answer is = cc
log-refused file before text after error None answer is = cc

read-refused : (file : TextFile) (before : ℕ) (text : List ℕ) (after : Option ℕ) (read : Result Report Fault) (answer : Answer) → IsLogRead before text read (Refused answer)
    → IsReadReplay file before text after read answer
read-refused file before text after (Ok report) answer is = log-refused file before text after report.error report.certificate answer is
read-refused file before text after (Err fault) answer is = cc

-- the answer to a text that gives no log
pub refusal-read : (file : TextFile) (before : ℕ) (text : List ℕ) (after : Option ℕ) (answer : Answer) → IsFile file → IsProblem file.problem
    → IsLogRead before text (report_read text file) (Refused answer) → AnswersReplay (declared_by file) before text after answer
refusal-read file before text after answer of whole is = record {
  file = file;
  is_file = of;
  whole = whole;
  declared = refl;
  is = read-refused file before text after (report_read text file) answer is;
}
