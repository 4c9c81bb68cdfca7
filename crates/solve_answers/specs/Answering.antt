-- Which answer belongs to which words and input; each definition rests on the ones above it.
use Rattle.std.specs.Prelude.{◌≡◌, ℕ, ◌≤◌, List, Option, Some, None, Result, Ok, Err, take, drop}
use Rattle.dcop_base.specs.Table.{product}
use Rattle.dcop_base.specs.Limits.{assignment_limit}
use Rattle.problem_text.specs.Declarations.{Declared}
use Rattle.problem_text.specs.Reading.{Parts}
use Rattle.problem_text.specs.Steps.{declared_by}
use Rattle.solve_words.specs.declared.command.Command.{Command}
use Rattle.solve_words.specs.declared.fault.WordFault.{WordFault}
use Rattle.solve_words.specs.declared.fault.WordFault.TheVariants as words
use Rattle.solve_words.specs.Command.{answer_to}
use Rattle.solve_report.specs.declared.answer.Answer.{Answer}
use Rattle.solve_report.specs.declared.answer.Answer.TheVariants as answers
use Rattle.solve_answers.specs.declared.task.Task.{Task}
use Rattle.solve_answers.specs.declared.task.Task.TheVariants.{File, Check, Replay, Edit}
use Rattle.solve_answers.specs.declared.task.FileTask.{FileTask}
use Rattle.solve_answers.specs.declared.task.FileTask.TheVariants as tasks
use Rattle.solve_methods.specs.Adopt.{AnswersAdopt}
use Rattle.solve_methods.specs.Auto.{AnswersAuto}
use Rattle.solve_methods.specs.Drill.{drilled}
use Rattle.solve_methods.specs.Goal.{TellsRight}
use Rattle.solve_methods.specs.Dpop.{AnswersDpop}
use Rattle.answer_io.specs.Input.{Input, Unread, Broken, TooLong, Whole}
use Rattle.answer_io.specs.InputTold.{DeclaredInput, told_of}
use Rattle.answer_io.specs.Inputs.{input_read}
use Rattle.answer_io.specs.Fronts.{front_read, lines_in}
use Rattle.solve_words.specs.Kinds.{number_of_words}
use Rattle.solve_methods.specs.Plain.{IsPlainReport, HasFirstOptimum, IsTooMany}
use Rattle.solve_answers.specs.Served.{task_of}
use Rattle.solve_answers.specs.Drilling.{drill_of, made_for}
use Rattle.solve_answers.specs.declared.drilling.Drill.{Drill}
use Rattle.solve_methods.specs.Tree.{AnswersTree}
use Rattle.solve_printed.specs.Checking.{AnswersCheck}
use Rattle.solve_printed.specs.Replaying.{AnswersReplay}
use Rattle.solve_cut.specs.Cut.{AnswersCut}
use Rattle.solve_edit.specs.Editing.{AnswersEdit}
use Rattle.solve_words.specs.declared.command.Format.TheVariants.{Dcop as Own}

-- the answer of `upgrade` to what was read: the file in version 2, with the bar of a WCSP text
abbrev pub IsUpgraded : Declared → Option ℕ → Answer → Type 0
IsUpgraded d None (answers.Upgraded file) = declared_by file ≡ record d { version = 2 }
IsUpgraded d (Some bar) (answers.UpgradedWcsp same file) = (same ≡ bar) × (declared_by file ≡ record d { version = 2 })
IsUpgraded d bar answer = ⊥

-- the answer to a task on a text that declares this; plain tries at most assignment_limit
-- assignments
abbrev pub IsFileAnswer : FileTask → DeclaredInput → Answer → Type 0
IsFileAnswer tasks.Plain t (answers.Report report file) =
    (product t.declared.sizes ≤ assignment_limit) × (declared_by file ≡ t.declared) × IsPlainReport file report × HasFirstOptimum file report
IsFileAnswer tasks.Plain t (answers.Many assignments) = IsTooMany (product t.declared.sizes) assignments
IsFileAnswer (tasks.Dpop certified) t answer = AnswersDpop t.declared certified answer
IsFileAnswer (tasks.Adopt error budget certified) t answer = AnswersAdopt t.declared error budget certified answer
IsFileAnswer (tasks.Auto error budget certified) t answer = AnswersAuto t.declared error budget certified answer
IsFileAnswer (tasks.Cut limit certified) t answer = AnswersCut t.declared limit certified answer
IsFileAnswer tasks.Tree t answer = AnswersTree t.declared answer
IsFileAnswer tasks.Upgrade t answer = IsUpgraded t.declared t.bar answer
IsFileAnswer task t answer = ⊥

-- the answer to a task on an input that is read as this
abbrev pub IsTextAnswer : FileTask → Result DeclaredInput Answer → Answer → Type 0
IsTextAnswer task (Ok told) answer = IsFileAnswer task told answer
IsTextAnswer task (Err refusal) answer = answer ≡ refusal

-- the answer of `check` on an input whose problem is read as this; it is about the report after the
-- problem's last line
abbrev pub IsReportAnswer : List ℕ → Result Parts Answer → Answer → Type 0
IsReportAnswer bytes (Ok parts) answer = AnswersCheck parts.declared (lines_in (take parts.used bytes)) (drop parts.used bytes) answer
IsReportAnswer bytes (Err refusal) answer = answer ≡ refusal

-- the answer of `replay` on an input whose problem is read as this; it is about the first events of
-- the log of the report after the problem's last line
abbrev pub IsReplayAnswer : List ℕ → Option ℕ → Result Parts Answer → Answer → Type 0
IsReplayAnswer bytes after (Ok parts) answer = AnswersReplay parts.declared (lines_in (take parts.used bytes)) (drop parts.used bytes) after answer
IsReplayAnswer bytes after (Err refusal) answer = answer ≡ refusal

-- the answer of `edit` on an input whose problem is read as this; it is about the edit lines after
-- the problem's last line
abbrev pub IsEditsAnswer : List ℕ → Result Parts Answer → Answer → Type 0
IsEditsAnswer bytes (Ok parts) answer = AnswersEdit parts.declared (lines_in (take parts.used bytes)) (drop parts.used bytes) answer
IsEditsAnswer bytes (Err refusal) answer = answer ≡ refusal

-- the answer to a task on a text, by the format of its problem: `check` and `replay` read a problem
-- and the report after it, `edit` a problem and the edit lines after it, every other task a problem
-- with no further word after it
abbrev pub IsTaskAnswer : Task → List ℕ → Answer → Type 0
IsTaskAnswer (File format task) bytes answer = IsTextAnswer task (input_read format bytes) answer
IsTaskAnswer (Check format) bytes answer = IsReportAnswer bytes (front_read format bytes) answer
IsTaskAnswer (Replay format after) bytes answer = IsReplayAnswer bytes after (front_read format bytes) answer
IsTaskAnswer Edit bytes answer = IsEditsAnswer bytes (front_read Own bytes) answer

-- the answer to a task on an input
abbrev pub IsInputAnswer : Task → Input → Answer → Type 0
IsInputAnswer task Unread answer = ⊥
IsInputAnswer task Broken answer = answer ≡ answers.Read
IsInputAnswer task TooLong answer = answer ≡ answers.ProblemText 0 9 0
IsInputAnswer task (Whole bytes) answer = IsTaskAnswer task bytes answer

-- the answer to a drill, made from a right answer of `solve` on the drill's file: its summary if it
-- is a report, and otherwise the same answer, a refusal
pub record IsDrillAnswer (drill : Drill) (answer : Answer) : Type 0 where
  pub solved : Answer
  pub is : IsFileAnswer drill.task (told_of (made_for drill) None) solved
  pub right : TellsRight solved
  pub told : answer ≡ drilled drill.seed solved

-- the answer to a command that reads nothing: only a drill is such a command
abbrev pub IsUnreadAnswer : Option Drill → Answer → Type 0
IsUnreadAnswer (Some drill) answer = IsDrillAnswer drill answer
IsUnreadAnswer None answer = ⊥

-- the answer to a command: by its task if it reads an input, and otherwise with nothing read
abbrev pub IsServedAnswer : Command → Option Task → Input → Answer → Type 0
IsServedAnswer command (Some task) input answer = IsInputAnswer task input answer
IsServedAnswer command None input answer = (input ≡ Unread) × IsUnreadAnswer (drill_of command) answer

-- the answer to a command, or to words that are refused
abbrev pub IsCommandAnswer : Result Command WordFault → Input → Answer → Type 0
IsCommandAnswer (Ok command) input answer = IsServedAnswer command (task_of command) input answer
IsCommandAnswer (Err (words.Bad at kind)) input answer =
    (input ≡ Unread) × (answer ≡ answers.Words at (number_of_words kind))
IsCommandAnswer (Err words.NoMemory) input answer = ⊥

-- the answer that belongs to words and an input
abbrev pub IsAnswer : List (List ℕ) → Input → Answer → Type 0
IsAnswer words input answer = IsCommandAnswer (answer_to words) input answer
