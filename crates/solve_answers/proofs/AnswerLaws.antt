-- Which answer belongs to which words and input, case by case; and what its status says about the
-- source.
use Rattle.std.proofs.Common.{take, drop, ◌≡◌, ℕ, ◌<◌, ◌⊎◌, inl, inr, Bool, List, Option, Some, None, Result, Ok, Err, IfOk, sym, ap, subst, refl, ◌∙◌}
use Rattle.dcop_edge.specs.Faults.{Rose}
use Rattle.dcop_base.specs.Whole.{IsProblem}
use Rattle.pseudotree.specs.declared.width.Wide.{Wide}
use Rattle.pseudotree.specs.declared.width.Wide.TheVariants.{Agent, Total}
use Rattle.dcop_base.specs.declared.memory.NoMemory.{NoMemory}
use Rattle.problem_text.specs.Declarations.{Declared}
use Rattle.problem_text.specs.File.{TextFile}
use Rattle.problem_text.specs.Reading.{Parts}
use Rattle.problem_text.specs.Steps.{declared_by}
use Rattle.solve_words.specs.declared.command.Command.{Command}
use Rattle.solve_words.specs.declared.fault.WordFault.{WordFault}
use Rattle.solve_words.specs.declared.fault.WordFault.TheVariants as words
use Rattle.solve_words.specs.Command.{answer_to}
use Rattle.certificate_text.specs.declared.report.Ending.{Ending}
use Rattle.certificate_text.specs.declared.report.Ending.TheVariants as endings
use Rattle.certificate_text.specs.declared.report.Report.{Report}
use Rattle.report_reader.specs.ReportLines.{Fault as ReportFault}
use Rattle.report_reader.specs.ReportReading.{report_read}
use Rattle.solve_report.specs.declared.answer.Answer.{Answer}
use Rattle.solve_report.specs.declared.answer.Answer.TheVariants as answers
use Rattle.answer_io.specs.declared.status.Status.TheVariants.{Solved, TooWide, ReadFault, LinkFault, LinkDiffers}
use Rattle.solve_answers.specs.declared.task.Task.{Task}
use Rattle.solve_answers.specs.declared.task.Task.TheVariants.{File, Check, Replay, Edit}
use Rattle.solve_answers.specs.declared.task.FileTask.{FileTask}
use Rattle.solve_answers.specs.declared.task.FileTask.TheVariants as tasks
use Rattle.solve_answers.specs.Answering.{IsUpgraded, IsFileAnswer, IsTextAnswer, IsReportAnswer, IsReplayAnswer, IsTaskAnswer, IsInputAnswer, IsDrillAnswer, IsUnreadAnswer, IsServedAnswer, IsCommandAnswer, IsAnswer}
use Rattle.solve_answers.specs.Nodes.{nodes_of, AskForNodes, IsOfLinks, TellsProblem, IsLinkAnswer, IsAnswerRead, IsTaskAnswerIn, IsUnreadAnswerIn}
use Rattle.solve_answers.specs.Same.{IsGiven}
use Rattle.solve_methods.specs.Adopt.{IsAdoptAnswer}
use Rattle.solve_methods.specs.Auto.{IsAutoBy}
use Rattle.solve_methods.specs.Drill.{drilled}
use Rattle.solve_methods.specs.Dpop.{wide_in, wide_answer, IsDpopSolved, IsAnswerBy}
use Rattle.minimised_problem.specs.Goal.{solved, problem_solved}
use Rattle.solve_methods.specs.Goal.{TellsRight}
use Rattle.answer_io.proofs.InputLaws.{count-stays}
use Rattle.answer_io.specs.Showing.{StaysUnless}
use Rattle.answer_io.specs.Input.{Input, Unread, Broken, TooLong, Whole, SourceState, IsReadFrom}
use Rattle.solve_answers.specs.Served.{task_of}
use Rattle.solve_answers.specs.Drilling.{drill_of, made_for}
use Rattle.solve_answers.specs.declared.drilling.Drill.{Drill}
use Rattle.solve_answers.specs.Answered.{Answered}
use Rattle.solve_answers.specs.FitTree.{HasFitTree}
use Rattle.answer_io.specs.Statuses.{status_of, status_of_ending}
use Rattle.solve_methods.specs.Tree.{IsTreeAnswer}
use Rattle.solve_words.specs.declared.command.Format.{Format}
use Rattle.solve_words.specs.declared.command.Format.TheVariants.{Dcop as Own}
use Rattle.answer_io.specs.InputTold.{DeclaredInput, told_of}
use Rattle.answer_io.specs.Inputs.{input_read}
use Rattle.answer_io.specs.Fronts.{front_read, lines_in}
use Rattle.solve_printed.specs.Checking.{IsReadAnswer}
use Rattle.solve_printed.specs.Replaying.{IsReplayOf, IsReadReplay}
use Rattle.certificate_text.specs.declared.certificate.Certificate.{Certificate}
use Rattle.certificate_text.specs.declared.certificate.Certificate.TheVariants.{Tables, Log, Cut}
use Rattle.answer_io.proofs.StatusLaws.{ending-told, read-alone}
use Rattle.answer_io.proofs.RefusalLaws.{input_told, front_told}
use Rattle.solve_answers.proofs.GivenLaws.{links-status}
use Rattle.solve_answers.proofs.SameLaws.{one_file, report_in}
use Rattle.solve_answers.proofs.EditLaws.{edits_sound}
use Rattle.cut_dpop.specs.declared.fault.CutFault.{CutFault}
use Rattle.cut_dpop.specs.declared.fault.CutFault.TheVariants as faults
use Rattle.solve_cut.specs.Cut.{refusal_of, IsRefusalAnswer, IsCutAnswerBy}

-- the answer of a task, if words ask for it
pub IsAnswer-task : (words : List (List ℕ)) (command : Command) (task : Task) (input : Input) (answer : Answer)
    → answer_to words ≡ Ok command → task_of command ≡ Some task → IsInputAnswer task input answer → IsAnswer words input answer
IsAnswer-task words command task input answer asked served is =
    subst (λ (r : Result Command WordFault). IsCommandAnswer r input answer) (sym asked)
    (subst (λ (t : Option Task). IsServedAnswer command t input answer) (sym served) is)

pub task-IsAnswer : (words : List (List ℕ)) (command : Command) (task : Task) (input : Input) (answer : Answer)
    → answer_to words ≡ Ok command → task_of command ≡ Some task → IsAnswer words input answer → IsInputAnswer task input answer
task-IsAnswer words command task input answer asked served is =
    subst (λ (t : Option Task). IsServedAnswer command t input answer) served
    (subst (λ (r : Result Command WordFault). IsCommandAnswer r input answer) asked is)

pub Answered-task : (words : List (List ℕ)) (command : Command) (task : Task) (before after : SourceState) (input : Input) (answer : Answer)
    → answer_to words ≡ Ok command → task_of command ≡ Some task → IsReadFrom input before after → IsInputAnswer task input answer → TellsRight answer
    → Answered words before after answer
Answered-task words command task before after input answer asked served read is right = record {
  input = input;
  read = read;
  belongs = inl (IsAnswer-task words command task input answer asked served is);
  right = right;
}

-- words ask for a command, and if its agents are in more than one node, they are in as many as it
-- asks for
module _ (words : List (List ℕ)) (command : Command) (nodes : ℕ) (asked : answer_to words ≡ Ok command) (so_many : 1 < nodes → nodes ≡ nodes_of command) where
  abbrev pub asks_nodes : 1 < nodes → AskForNodes words
  asks_nodes many = record {
    command = command;
    asked = asked;
    many = subst (λ (k : ℕ). 1 < k) (so_many many) many;
  }

  -- an answer about the links between them is one to the words, on an input with their problem
  links_given : (input : Input) (task : FileTask) (told : DeclaredInput) (answer : Answer) → TellsProblem (task_of command) (drill_of command) input task told → 1 < nodes → IsOfLinks task nodes told.declared answer → IsLinkAnswer words input answer
  links_given input task told answer read many links = record {
    asks = asks_nodes many;
    task = task;
    told = told;
    read = read;
    links = subst (λ (k : ℕ). IsOfLinks task k told.declared answer) (so_many many) links;
  }

  -- the answer to a task on a text, if the words ask for it
  module _ (format : Format) (task : FileTask) (bytes : List ℕ) (answer : Answer) (served : task_of command ≡ Some (File format task)) where
    told_problem : (told : DeclaredInput) → input_read format bytes ≡ Ok told → TellsProblem (task_of command) (drill_of command) (Whole bytes) task told
    told_problem told read = subst (λ (t : Option Task). TellsProblem t (drill_of command) (Whole bytes) task told) (sym served) (refl, read)

    told_given : (told : DeclaredInput) → input_read format bytes ≡ Ok told → IsTextAnswer task (input_read format bytes) answer ⊎ ((1 < nodes) × IsOfLinks task nodes told.declared answer) → IsGiven words (Whole bytes) answer
    told_given told read (inl is) = inl (IsAnswer-task words command (File format task) (Whole bytes) answer asked served is)
    told_given told read (inr links) = inr (links_given (Whole bytes) task told answer (told_problem told read) links.0 links.1)

    read_given : (read : Result DeclaredInput Answer) → input_read format bytes ≡ read → IsAnswerRead task nodes read (IsTextAnswer task (input_read format bytes)) answer → IsGiven words (Whole bytes) answer
    read_given (Ok told) read is = told_given told read is
    read_given (Err refusal) read is = inl (IsAnswer-task words command (File format task) (Whole bytes) answer asked served is)

  task_given : (task : Task) (bytes : List ℕ) (answer : Answer) → task_of command ≡ Some task → IsTaskAnswerIn nodes task bytes answer → IsGiven words (Whole bytes) answer
  task_given (File format task) bytes answer served is = read_given format task bytes answer served (input_read format bytes) refl is
  task_given (Check format) bytes answer served is = inl (IsAnswer-task words command (Check format) (Whole bytes) answer asked served is)
  task_given (Replay format after) bytes answer served is = inl (IsAnswer-task words command (Replay format after) (Whole bytes) answer asked served is)
  task_given Edit bytes answer served is = inl (IsAnswer-task words command Edit (Whole bytes) answer asked served is)

  -- the same on all bytes that were read, unless memory ran out
  pub Answered-text : (task : Task) (before after : SourceState) (bytes slice : List ℕ) (result : Result Answer NoMemory)
      → task_of command ≡ Some task → IsReadFrom (Whole bytes) before after → slice ≡ bytes
      → IfOk result (IsTaskAnswerIn nodes task slice) → IfOk result TellsRight → IfOk result (Answered words before after)
  Answered-text task before after bytes slice (Ok answer) served read same is right = record {
    input = Whole bytes;
    read = read;
    belongs = task_given task bytes answer served (subst (λ (t : List ℕ). IsTaskAnswerIn nodes task t answer) same is);
    right = right;
  }
  Answered-text task before after bytes slice (Err none) served read same is right = tt

  -- the answer if nothing is read
  unread-IsAnswer : (answer : Answer) → task_of command ≡ None → IsUnreadAnswer (drill_of command) answer → IsAnswer words Unread answer
  unread-IsAnswer answer unread is =
      subst (λ (r : Result Command WordFault). IsCommandAnswer r Unread answer) (sym asked)
      (subst (λ (t : Option Task). IsServedAnswer command t Unread answer) (sym unread) (refl, is))

  drill_problem : (drill : Drill) → task_of command ≡ None → drill_of command ≡ Some drill → TellsProblem (task_of command) (drill_of command) Unread drill.task (told_of (made_for drill) None)
  drill_problem drill unread drills =
      subst (λ (t : Option Task). TellsProblem t (drill_of command) Unread drill.task (told_of (made_for drill) None)) (sym unread)
      (subst (λ (d : Option Drill). TellsProblem None d Unread drill.task (told_of (made_for drill) None)) (sym drills) (refl, refl))

  drill_given : (drill : Drill) (answer : Answer) → task_of command ≡ None → drill_of command ≡ Some drill → IsDrillAnswer drill answer ⊎ ((1 < nodes) × IsOfLinks drill.task nodes (declared_by (made_for drill)) answer) → IsGiven words Unread answer
  drill_given drill answer unread drills (inl is) = inl (unread-IsAnswer answer unread (subst (λ (d : Option Drill). IsUnreadAnswer d answer) (sym drills) is))
  drill_given drill answer unread drills (inr links) =
      inr (links_given Unread drill.task (told_of (made_for drill) None) answer (drill_problem drill unread drills) links.0 links.1)

  unread_given : (drill : Option Drill) (answer : Answer) → task_of command ≡ None → drill_of command ≡ drill → IsUnreadAnswerIn nodes drill answer → IsGiven words Unread answer
  unread_given (Some drill) answer unread drills is = drill_given drill answer unread drills is
  unread_given None answer unread drills is = absurd is

  -- the same, unless memory ran out
  pub Answered-unread : (before after : SourceState) (result : Result Answer NoMemory)
      → task_of command ≡ None → after ≡ before → IfOk result (IsUnreadAnswerIn nodes (drill_of command)) → IfOk result TellsRight → IfOk result (Answered words before after)
  Answered-unread before after (Ok answer) unread same is right = record {
    input = Unread;
    read = same;
    belongs = unread_given (drill_of command) answer unread refl is;
    right = right;
  }
  Answered-unread before after (Err none) unread same is right = tt

-- an answer of `tree` is solved
pub tree-solved : (file : TextFile) (answer : Answer) → IsTreeAnswer file answer → status_of answer ≡ Solved
tree-solved file (answers.Tree deliveries nodes names) is = refl
tree-solved file (answers.Report report same) is = absurd is
tree-solved file (answers.Verdict verdict names) is = absurd is
tree-solved file (answers.Replay events agents names) is = absurd is
tree-solved file (answers.Drill summary) is = absurd is
tree-solved file (answers.Upgraded same) is = absurd is
tree-solved file (answers.UpgradedWcsp bar same) is = absurd is
tree-solved file (answers.Edits optima same) is = absurd is
tree-solved file (answers.Words at kind) is = absurd is
tree-solved file (answers.ProblemText line kind problem) is = absurd is
tree-solved file (answers.WcspText line kind problem) is = absurd is
tree-solved file (answers.ReportText line kind) is = absurd is
tree-solved file (answers.EditText line kind) is = absurd is
tree-solved file (answers.Many n) is = absurd is
tree-solved file (answers.ManyTurns n) is = absurd is
tree-solved file (answers.WideAgent var cells names) is = absurd is
tree-solved file (answers.WideTotal cells) is = absurd is
tree-solved file answers.Read is = absurd is
tree-solved file answers.Link is = absurd is
tree-solved file (answers.LinkDiffers from to at sent taken links) is = absurd is
tree-solved file (answers.LinkBytes round from_node to_node place sent taken) is = absurd is

-- an answer with a report of DPOP is solved
pub report-solved : (file : TextFile) (certified : Bool) (answer : Answer) → IsDpopSolved file certified answer → status_of answer ≡ Solved
report-solved file certified answer is = let parts = report_in file certified answer is in ap status_of parts.1 ∙ ap status_of_ending parts.2.status

-- the answer that something is too wide has its own status
pub wide-status : (names : List (List ℕ)) (wide : Wide) → status_of (wide_answer names wide) ≡ TooWide
wide-status names (Agent var cells) = refl
wide-status names (Total cells) = refl

dpop-sound : (file : TextFile) (certified : Bool) (wide : Option Wide) → ¬ IsAnswerBy file certified wide answers.Read
dpop-sound file certified None is = is
dpop-sound file certified (Some wide) is = let s = ap status_of is in let t = wide-status file.names wide in cc

-- nothing is too wide in the tree of a file if nothing is in that of a file that declares the same
pub fit-none : (d : Declared) → HasFitTree d → (file : TextFile) → IsProblem file.problem → declared_by file ≡ d → wide_in (solved file.goal file.problem) ≡ None
fit-none d fit file whole declared =
    subst (λ (f : TextFile). wide_in (solved f.goal f.problem) ≡ None) (one_file fit.file file fit.whole whole (fit.declared ∙ sym declared))
    fit.fits

-- an answer of ADOPT has the status of a report
pub adopt-status : (file : TextFile) (error budget : ℕ) (certified : Bool) (answer : Answer) → IsAdoptAnswer file error budget certified answer → (ending : Ending) × (status_of answer ≡ status_of_ending ending)
adopt-status file error budget certified (answers.Report report same) is = (report.status, refl)
adopt-status file error budget certified (answers.Tree deliveries nodes names) is = absurd is
adopt-status file error budget certified (answers.Verdict verdict names) is = absurd is
adopt-status file error budget certified (answers.Replay events agents names) is = absurd is
adopt-status file error budget certified (answers.Drill summary) is = absurd is
adopt-status file error budget certified (answers.Upgraded same) is = absurd is
adopt-status file error budget certified (answers.UpgradedWcsp bar same) is = absurd is
adopt-status file error budget certified (answers.Edits optima same) is = absurd is
adopt-status file error budget certified (answers.Words at kind) is = absurd is
adopt-status file error budget certified (answers.ProblemText line kind problem) is = absurd is
adopt-status file error budget certified (answers.WcspText line kind problem) is = absurd is
adopt-status file error budget certified (answers.ReportText line kind) is = absurd is
adopt-status file error budget certified (answers.EditText line kind) is = absurd is
adopt-status file error budget certified (answers.Many n) is = absurd is
adopt-status file error budget certified (answers.ManyTurns n) is = absurd is
adopt-status file error budget certified (answers.WideAgent var cells names) is = absurd is
adopt-status file error budget certified (answers.WideTotal cells) is = absurd is
adopt-status file error budget certified answers.Read is = absurd is
adopt-status file error budget certified answers.Link is = absurd is
adopt-status file error budget certified (answers.LinkDiffers from to at sent taken links) is = absurd is
adopt-status file error budget certified (answers.LinkBytes round from_node to_node place sent taken) is = absurd is

-- so has one of auto
pub auto-status : (file : TextFile) (error budget : ℕ) (certified : Bool) (wide : Option Wide) (answer : Answer) → IsAutoBy file error budget certified wide answer → (ending : Ending) × (status_of answer ≡ status_of_ending ending)
auto-status file error budget certified None answer is = (endings.Solved, report-solved file certified answer is)
auto-status file error budget certified (Some wide) answer is = adopt-status file error budget certified answer is

-- an upgraded file is solved
pub upgraded-solved : (d : Declared) (bar : Option ℕ) (answer : Answer) → IsUpgraded d bar answer → status_of answer ≡ Solved
upgraded-solved d None (answers.Upgraded file) is = refl
upgraded-solved d None (answers.UpgradedWcsp bar file) is = absurd is
upgraded-solved d None (answers.Report report file) is = absurd is
upgraded-solved d None (answers.Tree deliveries nodes names) is = absurd is
upgraded-solved d None (answers.Verdict verdict names) is = absurd is
upgraded-solved d None (answers.Replay events agents names) is = absurd is
upgraded-solved d None (answers.Drill summary) is = absurd is
upgraded-solved d None (answers.Edits optima file) is = absurd is
upgraded-solved d None (answers.Words at kind) is = absurd is
upgraded-solved d None (answers.ProblemText line kind problem) is = absurd is
upgraded-solved d None (answers.WcspText line kind problem) is = absurd is
upgraded-solved d None (answers.ReportText line kind) is = absurd is
upgraded-solved d None (answers.EditText line kind) is = absurd is
upgraded-solved d None (answers.Many n) is = absurd is
upgraded-solved d None (answers.ManyTurns n) is = absurd is
upgraded-solved d None (answers.WideAgent var cells names) is = absurd is
upgraded-solved d None (answers.WideTotal cells) is = absurd is
upgraded-solved d None answers.Read is = absurd is
upgraded-solved d None answers.Link is = absurd is
upgraded-solved d None (answers.LinkDiffers from to at sent taken links) is = absurd is
upgraded-solved d None (answers.LinkBytes round from_node to_node place sent taken) is = absurd is
upgraded-solved d (Some bar) (answers.UpgradedWcsp same file) is = refl
upgraded-solved d (Some bar) (answers.Upgraded file) is = absurd is
upgraded-solved d (Some bar) (answers.Report report file) is = absurd is
upgraded-solved d (Some bar) (answers.Tree deliveries nodes names) is = absurd is
upgraded-solved d (Some bar) (answers.Verdict verdict names) is = absurd is
upgraded-solved d (Some bar) (answers.Replay events agents names) is = absurd is
upgraded-solved d (Some bar) (answers.Drill summary) is = absurd is
upgraded-solved d (Some bar) (answers.Edits optima file) is = absurd is
upgraded-solved d (Some bar) (answers.Words at kind) is = absurd is
upgraded-solved d (Some bar) (answers.ProblemText line kind problem) is = absurd is
upgraded-solved d (Some bar) (answers.WcspText line kind problem) is = absurd is
upgraded-solved d (Some bar) (answers.ReportText line kind) is = absurd is
upgraded-solved d (Some bar) (answers.EditText line kind) is = absurd is
upgraded-solved d (Some bar) (answers.Many n) is = absurd is
upgraded-solved d (Some bar) (answers.ManyTurns n) is = absurd is
upgraded-solved d (Some bar) (answers.WideAgent var cells names) is = absurd is
upgraded-solved d (Some bar) (answers.WideTotal cells) is = absurd is
upgraded-solved d (Some bar) answers.Read is = absurd is
upgraded-solved d (Some bar) answers.Link is = absurd is
upgraded-solved d (Some bar) (answers.LinkDiffers from to at sent taken links) is = absurd is
upgraded-solved d (Some bar) (answers.LinkBytes round from_node to_node place sent taken) is = absurd is

-- the refusal of a cut is no failed reading
refusal_sound : (fault : CutFault) → ¬ IsRefusalAnswer fault answers.Read
refusal_sound (faults.TooMany turns) is = cc is
refusal_sound (faults.Total cells) is = cc is
refusal_sound faults.NoMemory is = is

cut_sound : (file : TextFile) (cut : List ℕ) (certified : Bool) (refusal : Option CutFault) → ¬ IsCutAnswerBy file cut certified refusal answers.Read
cut_sound file cut certified (Some fault) is = refusal_sound fault is
cut_sound file cut certified None is = cc is.is

-- an answer to what a text declares is no failed reading
file-sound : (task : FileTask) (t : DeclaredInput) → ¬ IsFileAnswer task t answers.Read
file-sound tasks.Plain t is = is
file-sound (tasks.Dpop certified) t is = dpop-sound is.file certified (wide_in (solved is.file.goal is.file.problem)) is.is
file-sound (tasks.Adopt error budget certified) t is = is.is
file-sound (tasks.Auto error budget certified) t is =
    let told = auto-status is.file error budget certified (wide_in (problem_solved is.file)) answers.Read is.is in (ending-told told.0).2 (sym told.1)
file-sound (tasks.Cut limit certified) t is = cut_sound is.file is.cut certified (refusal_of (problem_solved is.file) is.cut certified) is.is
file-sound tasks.Tree t is = is.is
file-sound tasks.Upgrade t is = let s = upgraded-solved t.declared t.bar answers.Read is in cc

text-sound : (task : FileTask) (read : Result DeclaredInput Answer) → ¬ (read ≡ Err answers.Read) → ¬ IsTextAnswer task read answers.Read
text-sound task (Ok t) told is = file-sound task t is
text-sound task (Err refusal) told is = told (ap Err (sym is))

-- an answer of `check` is no failed reading
read-sound : (file : TextFile) (before : ℕ) (read : Result Report ReportFault) → ¬ IsReadAnswer file before read answers.Read
read-sound file before (Ok report) is = is
read-sound file before (Err fault) is = cc is

report-sound : (bytes : List ℕ) (read : Result Parts Answer) → ¬ (read ≡ Err answers.Read) → ¬ IsReportAnswer bytes read answers.Read
report-sound bytes (Ok parts) told is = read-sound is.file (lines_in (take parts.used bytes)) (report_read (drop parts.used bytes) is.file) is.is
report-sound bytes (Err refusal) told is = told (ap Err (sym is))

-- an answer of `replay` is no failed reading
played-sound : (file : TextFile) (before : ℕ) (text : List ℕ) (after : Option ℕ) (error : ℕ) (certificate : Option Certificate) → ¬ IsReplayOf file before text after error certificate answers.Read
played-sound file before text after error (Some (Log log)) is = is
played-sound file before text after error (Some (Tables utils)) is = cc is
played-sound file before text after error (Some (Cut cut turns)) is = cc is
played-sound file before text after error None is = cc is

replay-sound : (file : TextFile) (before : ℕ) (text : List ℕ) (after : Option ℕ) (read : Result Report ReportFault) → ¬ IsReadReplay file before text after read answers.Read
replay-sound file before text after (Ok report) is = played-sound file before text after report.error report.certificate is
replay-sound file before text after (Err fault) is = cc is

behind-sound : (bytes : List ℕ) (after : Option ℕ) (read : Result Parts Answer) → ¬ (read ≡ Err answers.Read) → ¬ IsReplayAnswer bytes after read answers.Read
behind-sound bytes after (Ok parts) told is =
    replay-sound is.file (lines_in (take parts.used bytes)) (drop parts.used bytes) after (report_read (drop parts.used bytes) is.file) is.is
behind-sound bytes after (Err refusal) told is = told (ap Err (sym is))

task-sound : (task : Task) (bytes : List ℕ) → ¬ IsTaskAnswer task bytes answers.Read
task-sound (File format task) bytes is = text-sound task (input_read format bytes) (input_told format bytes) is
task-sound (Check format) bytes is = report-sound bytes (front_read format bytes) (front_told format bytes) is
task-sound (Replay format after) bytes is = behind-sound bytes after (front_read format bytes) (front_told format bytes) is
task-sound Edit bytes is = edits_sound bytes (front_read Own bytes) (front_told Own bytes) is

-- only a broken input is answered by a failed reading
input-sound : (task : Task) (input : Input) (answer : Answer) → IsInputAnswer task input answer → status_of answer ≡ ReadFault → input ≡ Broken
input-sound task Unread answer is fault = absurd is
input-sound task Broken answer is fault = refl
input-sound task TooLong answer is fault = let s = ap status_of is in cc
input-sound task (Whole bytes) answer is fault = absurd (task-sound task bytes (subst (IsTaskAnswer task bytes) (read-alone answer fault) is))

-- the answer to a drill has the status of the answer on the file that was made
pub drilled-status : (seed : ℕ) (solved : Answer) → status_of (drilled seed solved) ≡ status_of solved
drilled-status seed (answers.Report report file) = refl
drilled-status seed (answers.Tree deliveries nodes names) = refl
drilled-status seed (answers.Verdict verdict names) = refl
drilled-status seed (answers.Replay events agents names) = refl
drilled-status seed (answers.Drill summary) = refl
drilled-status seed (answers.Upgraded file) = refl
drilled-status seed (answers.UpgradedWcsp bar file) = refl
drilled-status seed (answers.Edits optima file) = refl
drilled-status seed (answers.Words at kind) = refl
drilled-status seed (answers.ProblemText line kind problem) = refl
drilled-status seed (answers.WcspText line kind problem) = refl
drilled-status seed (answers.ReportText line kind) = refl
drilled-status seed (answers.EditText line kind) = refl
drilled-status seed (answers.Many n) = refl
drilled-status seed (answers.ManyTurns n) = refl
drilled-status seed (answers.WideAgent var cells names) = refl
drilled-status seed (answers.WideTotal cells) = refl
drilled-status seed answers.Read = refl
drilled-status seed answers.Link = refl
drilled-status seed (answers.LinkDiffers from to at sent taken links) = refl
drilled-status seed (answers.LinkBytes round from_node to_node place sent taken) = refl

-- such an answer reads nothing, so no reading failed
unread-sound : (drill : Option Drill) (answer : Answer) → IsUnreadAnswer drill answer → status_of answer ≡ ReadFault → ⊥
unread-sound (Some drill) answer is fault =
    let solved : status_of is.solved ≡ ReadFault = sym (drilled-status drill.seed is.solved) ∙ sym (ap status_of is.told) ∙ fault in
    file-sound drill.task (told_of (made_for drill) None) (subst (λ (a : Answer). IsFileAnswer drill.task (told_of (made_for drill) None) a) (read-alone is.solved solved) is.is)
unread-sound None answer is fault = is

served-sound : (command : Command) (task : Option Task) (input : Input) (answer : Answer) → IsServedAnswer command task input answer → status_of answer ≡ ReadFault → input ≡ Broken
served-sound command (Some task) input answer is fault = input-sound task input answer is fault
served-sound command None input answer is fault = absurd (unread-sound (drill_of command) answer is.1 fault)

command-sound : (asked : Result Command WordFault) (input : Input) (answer : Answer) → IsCommandAnswer asked input answer → status_of answer ≡ ReadFault → input ≡ Broken
command-sound (Ok command) input answer is fault = served-sound command (task_of command) input answer is fault
command-sound (Err (words.Bad at kind)) input answer is fault = let s = ap status_of is.1 in cc
command-sound (Err words.NoMemory) input answer is fault = absurd is

-- a broken input is answered by a failed reading
served-broken : (command : Command) (task : Option Task) (answer : Answer) → IsServedAnswer command task Broken answer → status_of answer ≡ ReadFault
served-broken command (Some task) answer is = ap status_of is
served-broken command None answer is = cc is.0

command-broken : (asked : Result Command WordFault) (answer : Answer) → IsCommandAnswer asked Broken answer → status_of answer ≡ ReadFault
command-broken (Ok command) answer is = served-broken command (task_of command) answer is
command-broken (Err (words.Bad at kind)) answer is = cc is.0
command-broken (Err words.NoMemory) answer is = absurd is

-- no answer about links is one of a failed reading
given-sound : (words : List (List ℕ)) (input : Input) (answer : Answer) → IsGiven words input answer → status_of answer ≡ ReadFault → input ≡ Broken
given-sound words input answer (inl is) fault = command-sound (answer_to words) input answer is fault
given-sound words input answer (inr links) fault = elim (links-status _ _ _ answer links.links) [
  | inl failed ↦ let e : LinkFault ≡ ReadFault = sym failed ∙ fault in cc e
  | inr differs ↦ let e : LinkDiffers ≡ ReadFault = sym differs ∙ fault in cc e
]

-- an answer by a failed reading comes only if the source failed
pub Rose-answered : (words : List (List ℕ)) (before after : SourceState) (answer : Answer) → Answered words before after answer
    → status_of answer ≡ ReadFault → Rose before.faults after.faults
Rose-answered words before after answer done fault =
    (subst (λ (i : Input). IsReadFrom i before after) (given-sound words done.input answer done.belongs fault) done.read).0

-- a broken input has no problem
broken-untold : (task : Option Task) (drill : Option Drill) (done : FileTask) (told : DeclaredInput) → ¬ TellsProblem task drill Broken done told
broken-untold (Some (File format task)) drill done told is = is
broken-untold (Some (Check format)) drill done told is = is
broken-untold (Some (Replay format after)) drill done told is = is
broken-untold (Some Edit) drill done told is = is
broken-untold None (Some drill) done told is = is
broken-untold None None done told is = is

given-broken : (words : List (List ℕ)) (answer : Answer) → IsGiven words Broken answer → status_of answer ≡ ReadFault
given-broken words answer (inl is) = command-broken (answer_to words) answer is
given-broken words answer (inr links) = absurd (broken-untold (task_of links.asks.command) (drill_of links.asks.command) links.task links.told links.read)

-- the source's count stays unless the answer is by a failed reading
pub stays-answered : (words : List (List ℕ)) (before after : SourceState) (answer : Answer) → Answered words before after answer
    → StaysUnless before.faults after.faults (status_of answer ≡ ReadFault)
stays-answered words before after answer done =
    count-stays done.input before after (status_of answer ≡ ReadFault) done.read
    (λ broken. given-broken words answer (subst (λ (i : Input). IsGiven words i answer) broken done.belongs))
