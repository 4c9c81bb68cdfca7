-- No answer to a task on an input says anything about links between nodes.
use Rattle.std.proofs.Common.{take, drop, ◌≡◌, ℕ, Bool, List, Option, Some, None, Result, Ok, Err, IfOk, refl, sym, ap, subst, ◌∙◌}
use Rattle.dcop_base.specs.declared.memory.NoMemory.{NoMemory}
use Rattle.pseudotree.specs.declared.width.Wide.{Wide}
use Rattle.problem_text.specs.File.{TextFile}
use Rattle.problem_text.specs.Reading.{Fault, Parts, text_read}
use Rattle.wcsp_text.specs.declared.fault.Fault.{Fault as WcspFault}
use Rattle.wcsp_text.specs.Networks.{Network}
use Rattle.wcsp_text.specs.Texts.{text_read as wcsp_read}
use Rattle.solve_words.specs.declared.command.Format.{Format}
use Rattle.solve_words.specs.declared.command.Format.TheVariants.{Dcop as Own, Wcsp}
use Rattle.certificate_text.specs.declared.certificate.Certificate.{Certificate}
use Rattle.certificate_text.specs.declared.certificate.Certificate.TheVariants.{Tables, Log, Cut}
use Rattle.certificate_text.specs.declared.report.Ending.{Ending}
use Rattle.certificate_text.specs.declared.report.Ending.TheVariants as endings
use Rattle.certificate_text.specs.declared.report.Report.{Report}
use Rattle.certificate_text.specs.declared.verdict.Verdict.{Verdict}
use Rattle.certificate_text.specs.declared.verdict.Verdict.TheVariants as verdicts
use Rattle.report_reader.specs.ReportLines.{Fault as ReportFault}
use Rattle.report_reader.specs.ReportReading.{report_read}
use Rattle.protocol_steps.specs.Network.{start_state}
use Rattle.run_log.specs.Logs.{events_of}
use Rattle.solve_report.specs.declared.answer.Answer.{Answer}
use Rattle.solve_report.specs.declared.answer.Answer.TheVariants as answers
use Rattle.answer_io.specs.declared.status.Status.{Status}
use Rattle.answer_io.specs.declared.status.Status.TheVariants.{BadText, LinkFault, LinkDiffers}
use Rattle.answer_io.specs.Statuses.{status_of, status_of_ending, status_of_verdict}
use Rattle.answer_io.specs.Showing.{refused_by}
use Rattle.answer_io.specs.InputTold.{DeclaredInput, wcsp_refused_by}
use Rattle.answer_io.specs.Fronts.{own_front, wcsp_front, front_read, lines_in}
use Rattle.cut_dpop.specs.declared.fault.CutFault.{CutFault}
use Rattle.cut_dpop.specs.declared.fault.CutFault.TheVariants as faults
use Rattle.solve_cut.specs.Cut.{refusal_of, IsRefusalAnswer, IsCutAnswerBy}
use Rattle.solve_printed.specs.Checking.{IsReadAnswer}
use Rattle.solve_printed.specs.Replaying.{log_up_to, IsReplay, IsReplayOf, IsReadReplay}
use Rattle.solve_edit.specs.Editing.{IsEditAnswerBy, told_answer}
use Rattle.solve_edit.specs.Running.{EditsTold as ToldLines, Refused}
use Rattle.minimised_problem.specs.Goal.{problem_solved}
use Rattle.minimised_problem.specs.LogHolds.{agents_for}
use Rattle.solve_methods.specs.Dpop.{wide_in, wide_answer, IsAnswerBy}
use Rattle.solve_answers.specs.declared.task.FileTask.{FileTask}
use Rattle.solve_answers.specs.declared.task.FileTask.TheVariants as tasks
use Rattle.solve_answers.specs.Answering.{IsFileAnswer, IsReportAnswer, IsReplayAnswer, IsEditsAnswer}
use Rattle.solve_answers.specs.Nodes.{TellsAnswer, TellsLinks}
use Rattle.solve_answers.proofs.AnswerLaws.{adopt-status, auto-status, report-solved, tree-solved, upgraded-solved, wide-status}

-- a status that says nothing about links
abbrev pub IsLinkless : Status → Type 0
IsLinkless LinkFault = ⊥
IsLinkless LinkDiffers = ⊥
IsLinkless status = Unit {0}

-- an answer with such a status
abbrev pub TellsNoLink : Answer → Type 0
TellsNoLink answer = IsLinkless (status_of answer)

ending-linkless : (ending : Ending) → IsLinkless (status_of_ending ending)
ending-linkless endings.Solved = tt
ending-linkless endings.Spent = tt

verdict-linkless : (verdict : Verdict) → IsLinkless (status_of_verdict verdict)
verdict-linkless (verdicts.Yes cost error) = tt
verdict-linkless (verdicts.No differs) = tt

-- by the status that an answer has
status-linkless : (answer : Answer) (status : Status) → status_of answer ≡ status → IsLinkless status → TellsNoLink answer
status-linkless answer status is none = subst IsLinkless (sym is) none

-- what holds for no answer about links holds only for answers that say nothing about links
no-link : (P : Answer → Type 0) → ¬ P answers.Link → ((from to at : ℕ) (sent taken : Option (List ℕ)) (names : List (List ℕ)) → ¬ P (answers.LinkDiffers from to at sent taken names))
    → ((round from_node to_node place : ℕ) (sent taken : Option ℕ) → ¬ P (answers.LinkBytes round from_node to_node place sent taken)) → (answer : Answer) → P answer → TellsNoLink answer
no-link P fine same alike (answers.Report report file) is = ending-linkless report.status
no-link P fine same alike (answers.Tree deliveries nodes names) is = tt
no-link P fine same alike (answers.Verdict verdict names) is = verdict-linkless verdict
no-link P fine same alike (answers.Replay events agents names) is = tt
no-link P fine same alike (answers.Drill summary) is = ending-linkless summary.status
no-link P fine same alike (answers.Upgraded file) is = tt
no-link P fine same alike (answers.UpgradedWcsp bar file) is = tt
no-link P fine same alike (answers.Edits optima file) is = tt
no-link P fine same alike (answers.Words at kind) is = tt
no-link P fine same alike (answers.ProblemText line kind problem) is = tt
no-link P fine same alike (answers.WcspText line kind problem) is = tt
no-link P fine same alike (answers.ReportText line kind) is = tt
no-link P fine same alike (answers.EditText line kind) is = tt
no-link P fine same alike (answers.Many n) is = tt
no-link P fine same alike (answers.ManyTurns n) is = tt
no-link P fine same alike (answers.WideAgent var cells names) is = tt
no-link P fine same alike (answers.WideTotal cells) is = tt
no-link P fine same alike answers.Read is = tt
no-link P fine same alike answers.Link is = absurd (fine is)
no-link P fine same alike (answers.LinkDiffers from to at sent taken names) is = absurd (same from to at sent taken names is)
no-link P fine same alike (answers.LinkBytes round from_node to_node place sent taken) is = absurd (alike round from_node to_node place sent taken is)

-- an answer that something is too wide is one
wide-linkless : (names : List (List ℕ)) (wide : Wide) (answer : Answer) → answer ≡ wide_answer names wide → TellsNoLink answer
wide-linkless names wide answer is = status-linkless answer _ (ap status_of is ∙ wide-status names wide) tt

-- so is the answer of DPOP
dpop-linkless : (file : TextFile) (certified : Bool) (wide : Option Wide) (answer : Answer) → IsAnswerBy file certified wide answer → TellsNoLink answer
dpop-linkless file certified None answer is = status-linkless answer _ (report-solved file certified answer is) tt
dpop-linkless file certified (Some wide) answer is = wide-linkless file.names wide answer is

-- so is the answer of a cut
refusal-linkless : (fault : CutFault) (answer : Answer) → IsRefusalAnswer fault answer → TellsNoLink answer
refusal-linkless (faults.TooMany turns) answer is = status-linkless answer _ (ap status_of is) tt
refusal-linkless (faults.Total cells) answer is = status-linkless answer _ (ap status_of is) tt
refusal-linkless faults.NoMemory answer is = absurd is

cut-linkless : (file : TextFile) (cut : List ℕ) (certified : Bool) (refusal : Option CutFault) (answer : Answer) → IsCutAnswerBy file cut certified refusal answer → TellsNoLink answer
cut-linkless file cut certified (Some fault) answer is = refusal-linkless fault answer is
cut-linkless file cut certified None answer is = status-linkless answer _ (ap status_of is.is) (ending-linkless is.report.status)

-- so is every answer to what a text declares
pub file-linkless : (task : FileTask) (t : DeclaredInput) (answer : Answer) → IsFileAnswer task t answer → TellsNoLink answer
file-linkless tasks.Plain t answer is = no-link (IsFileAnswer tasks.Plain t) (λ no. no) (λ from to at sent taken names no. no) (λ round from_node to_node place sent taken no. no) answer is
file-linkless (tasks.Dpop certified) t answer is = dpop-linkless is.file certified (wide_in (problem_solved is.file)) answer is.is
file-linkless (tasks.Adopt error budget certified) t answer is =
    let told = adopt-status is.file error budget certified answer is.is in status-linkless answer _ told.1 (ending-linkless told.0)
file-linkless (tasks.Auto error budget certified) t answer is =
    let told = auto-status is.file error budget certified (wide_in (problem_solved is.file)) answer is.is in status-linkless answer _ told.1 (ending-linkless told.0)
file-linkless (tasks.Cut limit certified) t answer is = cut-linkless is.file is.cut certified (refusal_of (problem_solved is.file) is.cut certified) answer is.is
file-linkless tasks.Tree t answer is = status-linkless answer _ (tree-solved is.file answer is.is) tt
file-linkless tasks.Upgrade t answer is = status-linkless answer _ (upgraded-solved t.declared t.bar answer is) tt

-- so is an answer that refuses a problem
own-refused : (r : Result Parts Fault) (refusal : Answer) → own_front r ≡ Err refusal → status_of refusal ≡ BadText
own-refused (Ok parts) refusal e = cc e
own-refused (Err fault) refusal e = let same : refused_by fault ≡ refusal = cc e in sym (ap status_of same)

wcsp-refused : (bytes : List ℕ) (r : Result (Network × ℕ) WcspFault) (refusal : Answer) → wcsp_front bytes r ≡ Err refusal → status_of refusal ≡ BadText
wcsp-refused bytes (Ok read) refusal e = cc e
wcsp-refused bytes (Err fault) refusal e = let same : wcsp_refused_by bytes fault ≡ refusal = cc e in sym (ap status_of same)

front-linkless : (format : Format) (bytes : List ℕ) (refusal answer : Answer) → front_read format bytes ≡ Err refusal → answer ≡ refusal → TellsNoLink answer
front-linkless Own bytes refusal answer e is = status-linkless answer _ (ap status_of is ∙ own-refused (text_read bytes) refusal e) tt
front-linkless Wcsp bytes refusal answer e is = status-linkless answer _ (ap status_of is ∙ wcsp-refused bytes (wcsp_read bytes) refusal e) tt

-- so is the answer of `check`
read-linkless : (file : TextFile) (before : ℕ) (read : Result Report ReportFault) (answer : Answer) → IsReadAnswer file before read answer → TellsNoLink answer
read-linkless file before (Ok report) answer is = no-link (IsReadAnswer file before (Ok report)) (λ no. no) (λ from to at sent taken names no. no) (λ round from_node to_node place sent taken no. no) answer is
read-linkless file before (Err fault) answer is = status-linkless answer _ (ap status_of is) tt

report-linkless : (format : Format) (bytes : List ℕ) (read : Result Parts Answer) (answer : Answer) → front_read format bytes ≡ read → IsReportAnswer bytes read answer → TellsNoLink answer
report-linkless format bytes (Ok parts) answer e is = read-linkless is.file (lines_in (take parts.used bytes)) (report_read (drop parts.used bytes) is.file) answer is.is
report-linkless format bytes (Err refusal) answer e is = front-linkless format bytes refusal answer e is

-- so is the answer of `replay`
played-linkless : (file : TextFile) (before : ℕ) (text : List ℕ) (after : Option ℕ) (error : ℕ) (certificate : Option Certificate) (answer : Answer) → IsReplayOf file before text after error certificate answer → TellsNoLink answer
played-linkless file before text after error (Some (Log log)) answer is =
    no-link (IsReplay file (start_state (agents_for file error)) (events_of (log_up_to after log))) (λ no. no) (λ from to at sent taken names no. no) (λ round from_node to_node place sent taken no. no) answer is
played-linkless file before text after error (Some (Tables utils)) answer is = status-linkless answer _ (ap status_of is) tt
played-linkless file before text after error (Some (Cut cut turns)) answer is = status-linkless answer _ (ap status_of is) tt
played-linkless file before text after error None answer is = status-linkless answer _ (ap status_of is) tt

replay-linkless : (file : TextFile) (before : ℕ) (text : List ℕ) (after : Option ℕ) (read : Result Report ReportFault) (answer : Answer) → IsReadReplay file before text after read answer → TellsNoLink answer
replay-linkless file before text after (Ok report) answer is = played-linkless file before text after report.error report.certificate answer is
replay-linkless file before text after (Err fault) answer is = status-linkless answer _ (ap status_of is) tt

behind-linkless : (format : Format) (bytes : List ℕ) (after : Option ℕ) (read : Result Parts Answer) (answer : Answer) → front_read format bytes ≡ read → IsReplayAnswer bytes after read answer → TellsNoLink answer
behind-linkless format bytes after (Ok parts) answer e is =
    replay-linkless is.file (lines_in (take parts.used bytes)) (drop parts.used bytes) after (report_read (drop parts.used bytes) is.file) answer is.is
behind-linkless format bytes after (Err refusal) answer e is = front-linkless format bytes refusal answer e is

-- so is the answer of `edit`
lines-linkless : (told : Result ToldLines Refused) (answer : Answer) → told_answer told answer → TellsNoLink answer
lines-linkless (Ok told) answer is = status-linkless answer _ (ap status_of is) tt
lines-linkless (Err fault) answer is = status-linkless answer _ (ap status_of is) tt

edited-linkless : (file : TextFile) (before : ℕ) (text : List ℕ) (wide : Option Wide) (answer : Answer) → IsEditAnswerBy file before text wide answer → TellsNoLink answer
edited-linkless file before text None answer is = lines-linkless is.told answer is.is
edited-linkless file before text (Some wide) answer is = wide-linkless file.names wide answer is

edits-linkless : (bytes : List ℕ) (read : Result Parts Answer) (answer : Answer) → front_read Own bytes ≡ read → IsEditsAnswer bytes read answer → TellsNoLink answer
edits-linkless bytes (Ok parts) answer e is = edited-linkless is.file (lines_in (take parts.used bytes)) (drop parts.used bytes) (wide_in (problem_solved is.file)) answer is.is
edits-linkless bytes (Err refusal) answer e is = front-linkless Own bytes refusal answer e is

-- such an answer, if the dialer is as it was
module _ (many untrusted : Type 0) (old new : ℕ) (still : new ≡ old) where
  pub linkless-tells : (answer : Answer) → TellsNoLink answer → TellsAnswer many untrusted old new answer
  linkless-tells answer none = record {
    failed = λ e. absurd (subst IsLinkless e none);
    differs = λ e. absurd (subst IsLinkless e none);
    quiet = λ other. still;
  }

  pub result-tells : (r : Result Answer NoMemory) → IfOk r TellsNoLink → TellsLinks many untrusted old new r
  result-tells (Ok answer) none = linkless-tells answer none
  result-tells (Err refused) none = still

  pub file-tells : (task : FileTask) (t : DeclaredInput) (r : Result Answer NoMemory) → IfOk r (IsFileAnswer task t) → TellsLinks many untrusted old new r
  file-tells task t (Ok answer) is = linkless-tells answer (file-linkless task t answer is)
  file-tells task t (Err refused) is = still

  pub report-tells : (format : Format) (bytes : List ℕ) (r : Result Answer NoMemory) → IfOk r (IsReportAnswer bytes (front_read format bytes)) → TellsLinks many untrusted old new r
  report-tells format bytes (Ok answer) is = linkless-tells answer (report-linkless format bytes (front_read format bytes) answer refl is)
  report-tells format bytes (Err refused) is = still

  pub replay-tells : (format : Format) (bytes : List ℕ) (after : Option ℕ) (r : Result Answer NoMemory) → IfOk r (IsReplayAnswer bytes after (front_read format bytes)) → TellsLinks many untrusted old new r
  replay-tells format bytes after (Ok answer) is = linkless-tells answer (behind-linkless format bytes after (front_read format bytes) answer refl is)
  replay-tells format bytes after (Err refused) is = still

  pub edits-tells : (bytes : List ℕ) (r : Result Answer NoMemory) → IfOk r (IsEditsAnswer bytes (front_read Own bytes)) → TellsLinks many untrusted old new r
  edits-tells bytes (Ok answer) is = linkless-tells answer (edits-linkless bytes (front_read Own bytes) answer refl is)
  edits-tells bytes (Err refused) is = still
