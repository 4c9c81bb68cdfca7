-- What `check` and `replay` answer on a problem and the report that was printed for it.
use Rattle.std.proofs.Common.{◌≡◌, ℕ, List, take, drop, Option, Some, None, Result, Ok, sym, ap, subst, ◌∙◌}
use Rattle.problem_text.specs.File.{TextFile, IsFile}
use Rattle.problem_text.specs.Reading.{Parts}
use Rattle.run_log.specs.declared.log.LogEvent.{LogEvent}
use Rattle.certificate_text.specs.declared.certificate.Certificate.{Certificate}
use Rattle.certificate_text.specs.declared.certificate.Certificate.TheVariants.{Log}
use Rattle.certificate_text.specs.declared.report.Report.{Report}
use Rattle.certificate_text.specs.ReportText.{report_text}
use Rattle.report_reader.specs.ReportLines.{Fault as ReportFault}
use Rattle.report_reader.specs.ReportReading.{report_read}
use Rattle.report_reader.proofs.AgainLaws.{report-again}
use Rattle.solve_words.specs.declared.command.Format.{Format}
use Rattle.solve_report.specs.declared.answer.Answer.{Answer}
use Rattle.solve_printed.specs.Checking.{IsReadAnswer, IsCheckAnswer, AnswersCheck}
use Rattle.solve_printed.specs.Replaying.{IsReplayOf, IsReadReplay, AnswersReplay}
use Rattle.answer_io.specs.Fronts.{front_read, lines_in}
use Rattle.answer_io.proofs.FrontLaws.{front_kept, front_used}
use Rattle.solve_answers.specs.Answering.{IsReportAnswer, IsReplayAnswer}
use Rattle.solve_top.specs.Solving.{IsPrintedFor, IsLoggedFor}
use Rattle.answer_io.specs.Statuses.{status_of}
use Rattle.answer_io.specs.declared.status.Status.TheVariants.{Solved}
use Rattle.solve_answers.proofs.BlankLaws.{rest_kept}
use Rattle.solve_answers.proofs.CheckedLaws.{read_solved, log_replayed}
use Rattle.solve_answers.proofs.CertificateLaws.{Certifies, IsCertified, task_certified}
use Rattle.solve_answers.proofs.SameLaws.{one_file}

-- the text of a report that was printed, after the text of its problem, is read as that report
module _ (format : Format) (text : List ℕ) (printed : IsPrintedFor format text) where
  abbrev used : ℕ
  used = printed.parts.used

  abbrev told_text : List ℕ
  told_text = report_text printed.report printed.file

  pub certified : IsCertified printed.parts.declared printed.file printed.report
  certified = task_certified printed.task (record { declared = printed.parts.declared; bar = None }) printed.report printed.file printed.range printed.printed printed.certified

  pub front_is : front_read format text ≡ Ok printed.parts
  front_is = ap (front_read format) printed.behind ∙ front_kept format printed.problem printed.before told_text printed.parts printed.line printed.read

  pub again : IsFile printed.file → report_read (drop used text) printed.file ≡ Ok printed.report
  again is_file =
      subst (λ (t : List ℕ). report_read (drop used t) printed.file ≡ Ok printed.report) (sym printed.behind)
      (rest_kept printed.problem printed.before told_text used printed.file printed.report printed.line (front_used format printed.problem printed.parts printed.read) printed.rest
      (report-again printed.report printed.file is_file certified.whole printed.certified certified.fits))

  -- so `check` says yes
  checked_solved : (answer : Answer) → AnswersCheck printed.parts.declared (lines_in (take used text)) (drop used text) answer → status_of answer ≡ Solved
  checked_solved answer is =
      let one : is.file ≡ printed.file = one_file is.file printed.file is.whole certified.whole (is.declared ∙ sym certified.declared) in
      let read = again (subst IsFile one is.is_file) in
      let here : IsCheckAnswer printed.file (lines_in (take used text)) (drop used text) answer = subst (λ (f : TextFile). IsCheckAnswer f (lines_in (take used text)) (drop used text) answer) one is.is in
      read_solved printed.file (lines_in (take used text)) printed.report answer
      (subst (λ (r : Result Report ReportFault). IsReadAnswer printed.file (lines_in (take used text)) r answer) read here) certified.holds

  -- and `replay` answers with the end, if the certificate is a log
  replayed_solved : (log : List LogEvent) (after : Option ℕ) (answer : Answer) → printed.report.certificate ≡ Some (Log log)
      → AnswersReplay printed.parts.declared (lines_in (take used text)) (drop used text) after answer → status_of answer ≡ Solved
  replayed_solved log after answer logged is =
      let before : ℕ = lines_in (take used text) in
      let one : is.file ≡ printed.file = one_file is.file printed.file is.whole certified.whole (is.declared ∙ sym certified.declared) in
      let read = again (subst IsFile one is.is_file) in
      let here : IsReadReplay printed.file before (drop used text) after (report_read (drop used text) printed.file) answer =
      subst (λ (f : TextFile). IsReadReplay f before (drop used text) after (report_read (drop used text) f) answer) one is.is in
      let of : IsReplayOf printed.file before (drop used text) after printed.report.error printed.report.certificate answer =
      subst (λ (r : Result Report ReportFault). IsReadReplay printed.file before (drop used text) after r answer) read here in
      log_replayed printed.file printed.report log after answer (subst (Certifies printed.file printed.report) logged certified.holds)
      (subst (λ (c : Option Certificate). IsReplayOf printed.file before (drop used text) after printed.report.error c answer) logged of)

pub printed_solved : (format : Format) (text : List ℕ) (answer : Answer) → IsPrintedFor format text → IsReportAnswer text (front_read format text) answer → status_of answer ≡ Solved
printed_solved format text answer printed is =
    checked_solved format text printed answer (subst (λ (r : Result Parts Answer). IsReportAnswer text r answer) (front_is format text printed) is)

pub logged_solved : (format : Format) (after : Option ℕ) (text : List ℕ) (answer : Answer) → IsLoggedFor format text → IsReplayAnswer text after (front_read format text) answer → status_of answer ≡ Solved
logged_solved format after text answer logged is =
    replayed_solved format text logged.printed logged.log after answer logged.is
    (subst (λ (r : Result Parts Answer). IsReplayAnswer text after r answer) (front_is format text logged.printed) is)
