-- The answer to the text of a report, and a trace of a run.
use Rattle.std.proofs.Common.{◌≡◌, ℕ, ◌+◌, List, Option, Some, None, Result, Ok, Err, sym, subst, refl, ◌∙◌}
use Rattle.std.proofs.lemmas.Option.{none-some}
use Rattle.dcop_base.specs.Whole.{IsProblem}
use Rattle.protocol_steps.specs.Network.{Network, start_state}
use Rattle.protocol_steps.specs.Run.{run}
use Rattle.protocol_steps.specs.declared.event.EventFault.{EventFault}
use Rattle.problem_text.specs.File.{TextFile, IsFile}
use Rattle.problem_text.specs.Steps.{declared_by}
use Rattle.run_log.specs.declared.log.LogEvent.{LogEvent}
use Rattle.run_log.specs.Logs.{events_of}
use Rattle.certificate_text.specs.declared.certificate.Certificate.{Certificate}
use Rattle.certificate_text.specs.declared.certificate.Certificate.TheVariants as certificates
use Rattle.certificate_text.specs.declared.report.Report.{Report}
use Rattle.certificate_text.specs.declared.verdict.Differs.{Differs}
use Rattle.certificate_text.specs.declared.verdict.Differs.TheVariants as differences
use Rattle.certificate_text.specs.declared.verdict.Verdict.{Verdict}
use Rattle.certificate_text.specs.declared.verdict.Verdict.TheVariants.{Yes, No}
use Rattle.delivery_core.specs.Faults.{FirstFault, Replays}
use Rattle.delivery_core.specs.declared.replaying.ReplayFault.{ReplayFault}
use Rattle.delivery_core.specs.declared.replaying.ReplayFault.TheVariants.{BadEvent, NoMemory}
use Rattle.log_check.proofs.DifferLaws.{fault_told}
use Rattle.minimised_problem.specs.LogHolds.{agents_for}
use Rattle.minimised_problem.proofs.PlayedLaws.{run-lawful}
use Rattle.report_reader.specs.ReportLines.{Fault}
use Rattle.report_reader.specs.ReportReading.{report_read}
use Rattle.solve_report.specs.declared.answer.Answer.{Answer}
use Rattle.solve_report.specs.declared.answer.Answer.TheVariants as answers
use Rattle.solve_printed.specs.declared.reading.LogRead.TheVariants.{Log, Refused as Unread}
use Rattle.solve_printed.specs.LogReads.{IsPrintedLog, IsLogRead}
use Rattle.solve_printed.specs.Replaying.{log_up_to, IsFaultAnswer}
use Rattle.solve_printed.proofs.LogLaws.{log-in}
use Rattle.answer_io.specs.declared.status.Status.{Status}
use Rattle.answer_io.specs.declared.status.Status.TheVariants as statuses
use Rattle.program_frame.specs.declared.reply.Reply.{Reply}
use Rattle.program_frame.specs.declared.reply.Reply.TheVariants.{Own, Refused}
use Rattle.trace_top.specs.declared.words.Asked.{Asked}
use Rattle.trace_top.specs.Answering.{IsTrace, IsTraceOf, IsReadTrace, RepliesTrace}

-- the answer that reports the first event that is not lawful
pub fault-traced : (file : TextFile) (from : ℕ) (net : Network) (log : List LogEvent) (names : List (List ℕ)) (fault : ReplayFault) (answer : Answer) → names ≡ file.names → IsFaultAnswer names fault answer
    → Replays net (events_of log) (Err fault) → IsTrace file from net log (Refused answer)
fault-traced file from net log names (BadEvent at fault) answer same is first =
    subst (λ (a : Answer). IsTrace file from net log (Refused a)) (sym is) (same, first)
fault-traced file from net log names NoMemory answer same is first = absurd is

-- the answer to a trace of a log that a text gives
pub trace-read : (file : TextFile) (before : ℕ) (text : List ℕ) (asked : Asked) (error : ℕ) (log : List LogEvent) (reply : Reply) → IsFile file → IsProblem file.problem
    → IsLogRead before text (report_read text file) (Log error log) → IsTrace file asked.from (start_state (agents_for file error)) (log_up_to (Some asked.to) log) reply
    → RepliesTrace (declared_by file) before text asked reply
trace-read file before text asked error log reply of whole given is =
    let found = log-in before text (report_read text file) error log given in
    let report = found.0 in
    let own : IsTrace file asked.from (start_state (agents_for file report.error)) (log_up_to (Some asked.to) log) reply =
    subst (λ (e : ℕ). IsTrace file asked.from (start_state (agents_for file e)) (log_up_to (Some asked.to) log) reply) (sym found.2) is in
    let by_log : IsTraceOf file before text asked report.error report.certificate reply =
    subst (λ (c : Option Certificate). IsTraceOf file before text asked report.error c reply) (sym found.3) own in
    record {
      file = file;
      is_file = of;
      whole = whole;
      declared = refl;
      is = subst (λ (r : Result Report Fault). IsReadTrace file before text asked r reply) (sym found.1) by_log;
    }

-- a certificate that gives no log
log-refused : (file : TextFile) (before : ℕ) (text : List ℕ) (asked : Asked) (error : ℕ) (certificate : Option Certificate) (refusal : Answer) → IsPrintedLog before text error certificate (Unread refusal)
    → IsTraceOf file before text asked error certificate (Refused refusal)
log-refused file before text asked error (Some (certificates.Log log)) refusal is = cc
log-refused file before text asked error (Some (certificates.Tables utils)) refusal is = cc
log-refused file before text asked error (Some (certificates.Cut cut turns)) refusal is = cc
log-refused file before text asked error None refusal is = cc

text-refused : (file : TextFile) (before : ℕ) (text : List ℕ) (asked : Asked) (read : Result Report Fault) (refusal : Answer) → IsLogRead before text read (Unread refusal)
    → IsReadTrace file before text asked read (Refused refusal)
text-refused file before text asked (Ok report) refusal is = log-refused file before text asked report.error report.certificate refusal is
text-refused file before text asked (Err fault) refusal is = cc

-- the answer to a text that gives no log
pub refusal-read : (file : TextFile) (before : ℕ) (text : List ℕ) (asked : Asked) (refusal : Answer) → IsFile file → IsProblem file.problem
    → IsLogRead before text (report_read text file) (Unread refusal) → RepliesTrace (declared_by file) before text asked (Refused refusal)
refusal-read file before text asked refusal of whole is = record {
  file = file;
  is_file = of;
  whole = whole;
  declared = refl;
  is = text-refused file before text asked (report_read text file) refusal is;
}

-- no report is answered by a failed reading
certificate-sound : (file : TextFile) (before : ℕ) (text : List ℕ) (asked : Asked) (error : ℕ) (certificate : Option Certificate) → ¬ IsTraceOf file before text asked error certificate (Refused answers.Read)
certificate-sound file before text asked error (Some (certificates.Log log)) is = is
certificate-sound file before text asked error (Some (certificates.Tables utils)) is = cc
certificate-sound file before text asked error (Some (certificates.Cut cut turns)) is = cc
certificate-sound file before text asked error None is = cc

pub report-sound : (file : TextFile) (before : ℕ) (text : List ℕ) (asked : Asked) (read : Result Report Fault) → ¬ IsReadTrace file before text asked read (Refused answers.Read)
report-sound file before text asked (Ok report) is = certificate-sound file before text asked report.error report.certificate is
report-sound file before text asked (Err fault) is = cc

-- no event of a run is reported as one that is not lawful
no_fault : (net end : Network) (log : List LogEvent) (place : ℕ) (fault : EventFault) → run net (events_of log) ≡ Some end → ¬ FirstFault net (events_of log) place fault
no_fault net end log place fault ran first =
    none-some (differences.Event (1 + place) fault) (sym (run-lawful 1 net end log ran).0 ∙ fault_told 1 net log place fault first)

-- a run is not refused
module _ (file : TextFile) (from : ℕ) (net end : Network) (log : List LogEvent) (ran : run net (events_of log) ≡ Some end) where
  differs_traced : (differs : Differs) (names : List (List ℕ)) → ¬ IsTrace file from net log (Refused (answers.Verdict (No differs) names))
  differs_traced (differences.Event at fault) names is = no_fault net end log is.1.0 fault ran is.1.2
  differs_traced (differences.TreeRoots count) names is = is
  differs_traced (differences.TreeLoop var) names is = is
  differs_traced (differences.TreePair one other) names is = is
  differs_traced (differences.Scope var) names is = is
  differs_traced (differences.Cell var cell value left right) names is = is
  differs_traced (differences.TurnScope turn var) names is = is
  differs_traced (differences.TurnCell turn var cell value left right) names is = is
  differs_traced (differences.Cost left right) names is = is
  differs_traced (differences.Root left right) names is = is
  differs_traced (differences.Lower left right) names is = is
  differs_traced (differences.Upper left right) names is = is
  differs_traced (differences.Error left right) names is = is
  differs_traced (differences.Deliveries left right) names is = is
  differs_traced (differences.Status ending) names is = is
  differs_traced (differences.Stamp at left right) names is = is
  differs_traced (differences.Value var) names is = is

  verdict_traced : (verdict : Verdict) (names : List (List ℕ)) → ¬ IsTrace file from net log (Refused (answers.Verdict verdict names))
  verdict_traced (Yes cost error) names is = is
  verdict_traced (No differs) names is = differs_traced differs names is

  refusal_traced : (refusal : Answer) → ¬ IsTrace file from net log (Refused refusal)
  refusal_traced (answers.Verdict verdict names) is = verdict_traced verdict names is
  refusal_traced (answers.Replay events agents names) is = is
  refusal_traced (answers.Report other same) is = is
  refusal_traced (answers.Tree deliveries nodes names) is = is
  refusal_traced (answers.Drill summary) is = is
  refusal_traced (answers.Upgraded same) is = is
  refusal_traced (answers.UpgradedWcsp bar same) is = is
  refusal_traced (answers.Edits optima same) is = is
  refusal_traced (answers.Words at kind) is = is
  refusal_traced (answers.ProblemText line kind problem) is = is
  refusal_traced (answers.WcspText line kind problem) is = is
  refusal_traced (answers.ReportText line kind) is = is
  refusal_traced (answers.EditText line kind) is = is
  refusal_traced (answers.Many n) is = is
  refusal_traced (answers.ManyTurns n) is = is
  refusal_traced (answers.WideAgent var cells names) is = is
  refusal_traced (answers.WideTotal cells) is = is
  refusal_traced answers.Read is = is
  refusal_traced answers.Link is = is
  refusal_traced (answers.LinkDiffers from to at sent taken links) is = is
  refusal_traced (answers.LinkBytes round from_node to_node place sent taken) is = is

-- a report is not refused if it was read and has a log whose events, up to the last one asked for,
-- are a run
pub report-well : (file : TextFile) (before : ℕ) (text : List ℕ) (asked : Asked) (read : Result Report Fault) (report : Report) (log : List LogEvent) (end : Network) (refusal : Answer)
    → read ≡ Ok report → report.certificate ≡ Some (certificates.Log log) → run (start_state (agents_for file report.error)) (events_of (log_up_to (Some asked.to) log)) ≡ Some end
    → ¬ IsReadTrace file before text asked read (Refused refusal)
report-well file before text asked read report log end refusal told some ran is =
    let by_report : IsTraceOf file before text asked report.error report.certificate (Refused refusal) = subst (λ (r : Result Report Fault). IsReadTrace file before text asked r (Refused refusal)) told is in
    let traced : IsTrace file asked.from (start_state (agents_for file report.error)) (log_up_to (Some asked.to) log) (Refused refusal) =
    subst (λ (c : Option Certificate). IsTraceOf file before text asked report.error c (Refused refusal)) some by_report in
    refusal_traced file asked.from (start_state (agents_for file report.error)) end (log_up_to (Some asked.to) log) ran refusal traced

-- a text of the program's own ends as solved
certificate-own : (file : TextFile) (before : ℕ) (text : List ℕ) (asked : Asked) (error : ℕ) (certificate : Option Certificate) (own : List ℕ) (status : Status)
    → IsTraceOf file before text asked error certificate (Own own status) → status ≡ statuses.Solved
certificate-own file before text asked error (Some (certificates.Log log)) own status is = is.1
certificate-own file before text asked error (Some (certificates.Tables utils)) own status is = cc
certificate-own file before text asked error (Some (certificates.Cut cut turns)) own status is = cc
certificate-own file before text asked error None own status is = cc

pub report-own : (file : TextFile) (before : ℕ) (text : List ℕ) (asked : Asked) (read : Result Report Fault) (own : List ℕ) (status : Status)
    → IsReadTrace file before text asked read (Own own status) → status ≡ statuses.Solved
report-own file before text asked (Ok report) own status is = certificate-own file before text asked report.error report.certificate own status is
report-own file before text asked (Err fault) own status is = cc
