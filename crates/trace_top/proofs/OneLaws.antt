-- Words and an input have one reply.
use Rattle.std.proofs.Common.{◌≡◌, ℕ, ◌+◌, List, length, take, drop, Option, Some, None, Result, Ok, Err, sym, ap, ap₂, subst, ◌∙◌, arith}
use Rattle.dcop_base.specs.Graph.{AreJoints}
use Rattle.dcop_base.specs.Whole.{IsProblem}
use Rattle.dcop_base.proofs.UniqueLaws.{AreJoints-unique}
use Rattle.protocol_steps.specs.Network.{Network, start_state}
use Rattle.protocol_steps.specs.declared.event.EventFault.{EventFault}
use Rattle.problem_text.specs.Declarations.{Declared}
use Rattle.problem_text.specs.File.{TextFile}
use Rattle.problem_text.specs.Reading.{Parts}
use Rattle.problem_text.specs.Steps.{declared_by}
use Rattle.run_log.specs.declared.log.LogEvent.{LogEvent}
use Rattle.run_log.specs.Logs.{events_of}
use Rattle.certificate_text.specs.declared.certificate.Certificate.{Certificate}
use Rattle.certificate_text.specs.declared.certificate.Certificate.TheVariants as certificates
use Rattle.certificate_text.specs.declared.report.Report.{Report}
use Rattle.certificate_text.specs.declared.verdict.Differs.{Differs}
use Rattle.certificate_text.specs.declared.verdict.Differs.TheVariants as differences
use Rattle.certificate_text.specs.declared.verdict.Verdict.{Verdict}
use Rattle.certificate_text.specs.declared.verdict.Verdict.TheVariants.{Yes, No}
use Rattle.report_reader.specs.ReportLines.{Fault}
use Rattle.report_reader.specs.ReportReading.{report_read}
use Rattle.minimised_problem.specs.Differences.{fault_in}
use Rattle.minimised_problem.specs.LogHolds.{agents_for}
use Rattle.minimised_problem.proofs.PlayedLaws.{run-lawful}
use Rattle.log_check.proofs.DifferLaws.{fault_told}
use Rattle.solve_report.specs.declared.answer.Answer.{Answer}
use Rattle.solve_report.specs.declared.answer.Answer.TheVariants as answers
use Rattle.solve_printed.specs.Replaying.{log_up_to, TellsEventFault}
use Rattle.answer_io.specs.declared.status.Status.{Status}
use Rattle.answer_io.specs.declared.status.Status.TheVariants as statuses
use Rattle.answer_io.specs.Fronts.{front_read, lines_in}
use Rattle.program_frame.proofs.OneLaws.{replies_one}
use Rattle.program_frame.specs.declared.reply.Reply.{Reply}
use Rattle.program_frame.specs.declared.reply.Reply.TheVariants.{Own, Refused}
use Rattle.trace_top.specs.Answering.{IsTrace, IsTraceOf, IsReadTrace, RepliesTrace, IsTextReply}
use Rattle.trace_top.specs.Tracing.{trace_program, TraceAnswersAreOne}
use Rattle.trace_text.specs.Trace.{trace_text}
use Rattle.trace_top.specs.declared.words.Asked.{Asked}

-- the file that declares this, with these joints
abbrev file_with : Declared → List (ℕ × ℕ) → TextFile
file_with d joints = record {
  version = d.version;
  goal = d.goal;
  names = d.names;
  labels = d.labels;
  problem = record { sizes = d.sizes; tables = d.tables; joints = joints };
}

-- files that declare the same are the same, since their joints follow from the tables
one_file : (f g : TextFile) → IsProblem f.problem → IsProblem g.problem → declared_by f ≡ declared_by g → f ≡ g
one_file f g of_f of_g e =
    ap₂ file_with e
    (AreJoints-unique (length g.problem.sizes) g.problem.tables f.problem.joints g.problem.joints
    (subst (λ (d : Declared). AreJoints (length d.sizes) d.tables f.problem.joints) e of_f.joints) of_g.joints)

-- the reply to these events is the one that their first fault gives: a trace if there is none
module _ (file : TextFile) (from : ℕ) (net : Network) (log : List LogEvent) where
  abbrev traced_by : Option Differs → Reply
  traced_by None = Own (trace_text file.names from net log) statuses.Solved
  traced_by (Some differs) = Refused (answers.Verdict (No differs) file.names)

  abbrev only : Reply
  only = traced_by (fault_in 1 net log)

  text_only : (text : List ℕ) (status : Status) → IsTrace file from net log (Own text status) → Own text status ≡ only
  text_only text status is = ap₂ Own is.0.2 is.1 ∙ sym (ap traced_by (run-lawful 1 net is.0.0 log is.0.1).0)

  fault_only : (at : ℕ) (fault : EventFault) (names : List (List ℕ)) → names ≡ file.names → TellsEventFault net (events_of log) at fault
      → Refused (answers.Verdict (No (differences.Event at fault)) names) ≡ only
  fault_only at fault names same first =
      let number : at ≡ 1 + first.0 = (let e = first.1 in omega (arith, e)) in
      ap₂ (λ (n : ℕ) (ns : List (List ℕ)). Refused (answers.Verdict (No (differences.Event n fault)) ns)) number same
      ∙ sym (ap traced_by (fault_told 1 net log first.0 fault first.2))

  differs_only : (differs : Differs) (names : List (List ℕ)) → IsTrace file from net log (Refused (answers.Verdict (No differs) names)) → Refused (answers.Verdict (No differs) names) ≡ only
  differs_only (differences.Event at fault) names is = fault_only at fault names is.0 is.1
  differs_only (differences.TreeRoots count) names is = absurd is
  differs_only (differences.TreeLoop var) names is = absurd is
  differs_only (differences.TreePair one other) names is = absurd is
  differs_only (differences.Scope var) names is = absurd is
  differs_only (differences.Cell var cell value left right) names is = absurd is
  differs_only (differences.TurnScope turn var) names is = absurd is
  differs_only (differences.TurnCell turn var cell value left right) names is = absurd is
  differs_only (differences.Cost left right) names is = absurd is
  differs_only (differences.Root left right) names is = absurd is
  differs_only (differences.Lower left right) names is = absurd is
  differs_only (differences.Upper left right) names is = absurd is
  differs_only (differences.Error left right) names is = absurd is
  differs_only (differences.Deliveries left right) names is = absurd is
  differs_only (differences.Status ending) names is = absurd is
  differs_only (differences.Stamp at left right) names is = absurd is
  differs_only (differences.Value var) names is = absurd is

  verdict_only : (verdict : Verdict) (names : List (List ℕ)) → IsTrace file from net log (Refused (answers.Verdict verdict names)) → Refused (answers.Verdict verdict names) ≡ only
  verdict_only (Yes cost error) names is = absurd is
  verdict_only (No differs) names is = differs_only differs names is

  refusal_only : (refusal : Answer) → IsTrace file from net log (Refused refusal) → Refused refusal ≡ only
  refusal_only (answers.Verdict verdict names) is = verdict_only verdict names is
  refusal_only (answers.Replay events agents names) is = absurd is
  refusal_only (answers.Report other same) is = absurd is
  refusal_only (answers.Tree deliveries nodes names) is = absurd is
  refusal_only (answers.Drill summary) is = absurd is
  refusal_only (answers.Upgraded same) is = absurd is
  refusal_only (answers.UpgradedWcsp bar same) is = absurd is
  refusal_only (answers.Edits optima same) is = absurd is
  refusal_only (answers.Words at kind) is = absurd is
  refusal_only (answers.ProblemText line kind problem) is = absurd is
  refusal_only (answers.WcspText line kind problem) is = absurd is
  refusal_only (answers.ReportText line kind) is = absurd is
  refusal_only (answers.EditText line kind) is = absurd is
  refusal_only (answers.Many n) is = absurd is
  refusal_only (answers.ManyTurns n) is = absurd is
  refusal_only (answers.WideAgent var cells names) is = absurd is
  refusal_only (answers.WideTotal cells) is = absurd is
  refusal_only answers.Read is = absurd is
  refusal_only answers.Link is = absurd is
  refusal_only (answers.LinkDiffers from to at sent taken links) is = absurd is
  refusal_only (answers.LinkBytes round from_node to_node place sent taken) is = absurd is

  trace_only : (reply : Reply) → IsTrace file from net log reply → reply ≡ only
  trace_only (Own text status) is = text_only text status is
  trace_only (Refused refusal) is = refusal_only refusal is

one_trace_of : (file : TextFile) (before : ℕ) (text : List ℕ) (asked : Asked) (error : ℕ) (certificate : Option Certificate) (a b : Reply)
    → IsTraceOf file before text asked error certificate a → IsTraceOf file before text asked error certificate b → a ≡ b
one_trace_of file before text asked error (Some (certificates.Log log)) a b of_a of_b =
    let net : Network = start_state (agents_for file error) in
    trace_only file asked.from net (log_up_to (Some asked.to) log) a of_a ∙ sym (trace_only file asked.from net (log_up_to (Some asked.to) log) b of_b)
one_trace_of file before text asked error (Some (certificates.Tables utils)) a b of_a of_b = of_a ∙ sym of_b
one_trace_of file before text asked error (Some (certificates.Cut cut turns)) a b of_a of_b = of_a ∙ sym of_b
one_trace_of file before text asked error None a b of_a of_b = of_a ∙ sym of_b

one_read : (file : TextFile) (before : ℕ) (text : List ℕ) (asked : Asked) (read : Result Report Fault) (a b : Reply)
    → IsReadTrace file before text asked read a → IsReadTrace file before text asked read b → a ≡ b
one_read file before text asked (Ok report) a b of_a of_b = one_trace_of file before text asked report.error report.certificate a b of_a of_b
one_read file before text asked (Err fault) a b of_a of_b = of_a ∙ sym of_b

one_declared : (d : Declared) (before : ℕ) (text : List ℕ) (asked : Asked) (a b : Reply) → RepliesTrace d before text asked a → RepliesTrace d before text asked b → a ≡ b
one_declared d before text asked a b of_a of_b =
    let same : of_b.file ≡ of_a.file = one_file of_b.file of_a.file of_b.whole of_a.whole (of_b.declared ∙ sym of_a.declared) in
    one_read of_a.file before text asked (report_read text of_a.file) a b of_a.is
    (subst (λ (f : TextFile). IsReadTrace f before text asked (report_read text f) b) same of_b.is)

one_text : (bytes : List ℕ) (asked : Asked) (read : Result Parts Answer) (a b : Reply) → IsTextReply bytes asked read a → IsTextReply bytes asked read b → a ≡ b
one_text bytes asked (Ok parts) a b of_a of_b = one_declared parts.declared (lines_in (take parts.used bytes)) (drop parts.used bytes) asked a b of_a of_b
one_text bytes asked (Err refusal) a b of_a of_b = of_a ∙ sym of_b

pub trace_answers_one : TraceAnswersAreOne
trace_answers_one = replies_one trace_program (λ asked bytes. one_text bytes asked (front_read asked.format bytes))
