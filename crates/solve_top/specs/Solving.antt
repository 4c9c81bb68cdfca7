-- What a top call does: it finds an answer and shows it.
use Rattle.std.specs.Prelude.{◌≡◌, ℕ, ◌≤◌, ◌⊎◌, List, [], ◌∷◌, ◌++◌, length, take, drop, ◌+◌, Some, None, Ok, IsTrue, is_some}
use Rattle.dcop_base.specs.Table.{product}
use Rattle.dcop_base.specs.Limits.{assignment_limit, input_limit, size_limit}
use Rattle.problem_text.specs.Declarations.{Declared}
use Rattle.problem_text.specs.File.{TextFile}
use Rattle.problem_text.specs.Steps.{declared_by}
use Rattle.problem_text.specs.Bytes.{line_feed}
use Rattle.problem_text.specs.PlainLines.{plain_lines}
use Rattle.problem_text.specs.Reading.{Parts}
use Rattle.run_log.specs.declared.log.LogEvent.{LogEvent}
use Rattle.certificate_text.specs.declared.certificate.Certificate.TheVariants.{Log}
use Rattle.certificate_text.specs.declared.report.Report.{Report}
use Rattle.certificate_text.specs.ReportText.{report_text}
use Rattle.solve_report.specs.declared.answer.Answer.TheVariants as answers
use Rattle.solve_words.specs.declared.command.Command.{Command}
use Rattle.solve_words.specs.declared.command.Format.{Format}
use Rattle.solve_words.specs.declared.command.Format.TheVariants.{Dcop as Own}
use Rattle.solve_words.specs.Command.{answer_to}
use Rattle.solve_report.specs.declared.answer.Answer.{Answer}
use Rattle.answer_io.specs.declared.status.Status.{Status}
use Rattle.answer_io.specs.declared.status.Status.TheVariants as statuses
use Rattle.solve_answers.specs.declared.task.Task.{Task}
use Rattle.solve_answers.specs.declared.task.Task.TheVariants.{File, Check, Replay, Edit}
use Rattle.solve_answers.specs.declared.task.FileTask.{FileTask}
use Rattle.solve_answers.specs.declared.task.FileTask.TheVariants as tasks
use Rattle.solve_answers.specs.Answering.{IsFileAnswer}
use Rattle.solve_answers.specs.Nodes.{AskForNodes, TellsAnswer}
use Rattle.solve_answers.specs.Answered.{Answered}
use Rattle.solve_answers.specs.FitTree.{HasFitTree}
use Rattle.solve_top.specs.Taken.{AreLinesTaken}
use Rattle.solve_cut.specs.Allowed.{HasAllowedCut}
use Rattle.answer_io.specs.Input.{SourceState}
use Rattle.answer_io.specs.Output.{SinkState}
use Rattle.answer_io.specs.Showing.{IsWholeShown, IsCutShort}
use Rattle.solve_answers.specs.Served.{task_of, IsFileTaskInRange}
use Rattle.solve_answers.specs.Drilling.{drill_of, made_for}
use Rattle.solve_answers.specs.declared.drilling.Drill.{Drill}
use Rattle.answer_io.specs.InputTold.{DeclaredInput}
use Rattle.answer_io.specs.Inputs.{input_read}
use Rattle.answer_io.specs.Fronts.{front_read, lines_in}

-- a call on these words found an answer and showed it, or its sink failed after a prefix of it.
-- What the answer says about links fits the dialer's count of faults, which was `old` and is now
-- `new`, and fits `untrusted` (`TellsAnswer`). `untrusted` is the statement that the dialer is not
-- honest and some wire is the end of a new stream
pub record Solves (words : List (List ℕ)) (untrusted : Type 0) (old new : ℕ) (source source' : SourceState) (sink sink' : SinkState) (status : Status) : Type 0 where
  pub answer : Answer
  pub answered : Answered words source source' answer
  pub links : TellsAnswer (AskForNodes words) untrusted old new answer
  pub shown : IsWholeShown answer sink sink' status ⊎ IsCutShort answer sink sink' status

-- a task is within its limits: plain has at most assignment_limit assignments to try; for DPOP
-- nothing is too wide in the tree; a cut has a limit of at least size_limit cells, and nothing
-- refuses it; every other task is within its limits
abbrev pub IsWithinLimits : FileTask → Declared → Type 0
IsWithinLimits tasks.Plain d = product d.sizes ≤ assignment_limit
IsWithinLimits (tasks.Dpop certified) d = HasFitTree d
IsWithinLimits (tasks.Adopt error budget certified) d = Unit {0}
IsWithinLimits (tasks.Auto error budget certified) d = Unit {0}
IsWithinLimits (tasks.Cut limit certified) d = (size_limit ≤ limit) × HasAllowedCut d limit certified
IsWithinLimits tasks.Tree d = Unit {0}
IsWithinLimits tasks.Upgrade d = Unit {0}

-- a text in this format is read whole as a problem within the limits of a task
pub record IsProblemFor (format : Format) (task : FileTask) (text : List ℕ) : Type 0 where
  pub told : DeclaredInput
  pub read : input_read format text ≡ Ok told
  pub within : IsWithinLimits task told.declared

-- a text is a problem in this format, followed by a report that some method prints for it with a
-- certificate. The problem ends with line_feed, and there are no words, not even in comments,
-- between what `front_read` uses of it and the report
pub record IsPrintedFor (format : Format) (text : List ℕ) : Type 0 where
  pub problem : List ℕ
  pub parts : Parts
  pub read : front_read format problem ≡ Ok parts
  pub rest : plain_lines 1 (drop parts.used problem) ≡ []
  pub before : List ℕ
  pub line : problem ≡ before ++ line_feed ∷ []
  pub file : TextFile
  pub report : Report
  pub task : FileTask
  pub range : IsFileTaskInRange task
  pub printed : IsFileAnswer task (record { declared = parts.declared; bar = None }) (answers.Report report file)
  pub certified : IsTrue (is_some report.certificate)
  pub behind : text ≡ problem ++ report_text report file

-- such a text, whose report has a log as its certificate
pub record IsLoggedFor (format : Format) (text : List ℕ) : Type 0 where
  pub printed : IsPrintedFor format text
  pub log : List LogEvent
  pub is : printed.report.certificate ≡ Some (Log log)

-- a text begins with a problem whose tree is not too wide; edit lines follow of which none is
-- refused
pub record IsEditedFor (text : List ℕ) : Type 0 where
  pub parts : Parts
  pub read : front_read Own text ≡ Ok parts
  pub fits : HasFitTree parts.declared
  pub taken : AreLinesTaken fits.file (plain_lines (lines_in (take parts.used text) + 1) (drop parts.used text))

-- a text for a task: a problem within its limits; for `check` a problem and a report printed for
-- it; for `replay` the same with a log in the report; for `edit` a problem and edit lines of which
-- none is refused
abbrev pub IsTextFor : Task → List ℕ → Type 0
IsTextFor (File format task) text = IsProblemFor format task text
IsTextFor (Check format) text = IsPrintedFor format text
IsTextFor (Replay format after) text = IsLoggedFor format text
IsTextFor Edit text = IsEditedFor text

-- words are accepted and give a task on an input, and the text is one for this task and has at most
-- input_limit bytes
pub record Accepts (words : List (List ℕ)) (text : List ℕ) : Type 0 where
  pub command : Command
  pub task : Task
  pub asked : answer_to words ≡ Ok command
  pub served : task_of command ≡ Some task
  pub short : length text ≤ input_limit
  pub fits : IsTextFor task text

-- words ask for a drill whose problem is within the limits of its task
pub record AsksDrill (words : List (List ℕ)) : Type 0 where
  pub command : Command
  pub drill : Drill
  pub asked : answer_to words ≡ Ok command
  pub unread : task_of command ≡ None
  pub served : drill_of command ≡ Some drill
  pub within : IsWithinLimits drill.task (declared_by (made_for drill))

-- a task goes well: it is solved; or memory ran out; or the method is ADOPT or auto, and the budget
-- is spent
abbrev pub GoesWell : Status → Task → Type 0
GoesWell statuses.Solved task = Unit {0}
GoesWell statuses.NoMemory task = Unit {0}
GoesWell statuses.Spent (File format (tasks.Adopt error budget certified)) = Unit {0}
GoesWell statuses.Spent (File format (tasks.Auto error budget certified)) = Unit {0}
GoesWell status task = ⊥
