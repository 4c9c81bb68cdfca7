-- The answer to the lines of an edit session on a file.
use Rattle.std.specs.Prelude.{◌≡◌, ℕ, ◌+◌, ◌==◌, List, Option, Some, None, Result, Ok, Err, count_by}
use Rattle.dcop_base.specs.Whole.{IsProblem}
use Rattle.pseudotree.specs.declared.width.Wide.{Wide}
use Rattle.problem_text.specs.Bytes.{line_feed}
use Rattle.problem_text.specs.File.{TextFile}
use Rattle.problem_text.specs.Declarations.{Declared}
use Rattle.problem_text.specs.Steps.{declared_by}
use Rattle.problem_text.specs.PlainLines.{plain_lines}
use Rattle.minimised_problem.specs.Goal.{problem_solved}
use Rattle.solve_report.specs.declared.answer.Answer.{Answer}
use Rattle.solve_report.specs.declared.answer.Answer.TheVariants as answers
use Rattle.solve_methods.specs.Dpop.{wide_in, wide_answer}
use Rattle.edit_session.specs.State.{SessionState, opened}
use Rattle.edit_text.specs.Kinds.{number_of_edit}
use Rattle.solve_edit.specs.Running.{EditsTold, Refused, AreLinesTold}

-- the number of the line after a text that `before` lines precede
abbrev pub line_behind : ℕ → List ℕ → ℕ
line_behind before text = before + (1 + count_by (λ b. b == line_feed) text)

-- the answer from the result of the lines: the optima, or only the first fault
abbrev pub told_answer : Result EditsTold Refused → Answer → Type 0
told_answer (Ok told) answer = answer ≡ answers.Edits told.answers told.file
told_answer (Err fault) answer = answer ≡ answers.EditText fault.line (number_of_edit fault.kind)

-- the answer to the lines of a text in a session with this state; `before` lines precede the text
pub record TellsLines (s : SessionState) (before : ℕ) (text : List ℕ) (answer : Answer) : Type 0 where
  pub told : Result EditsTold Refused
  pub lines : AreLinesTold s (line_behind before text) (plain_lines (before + 1) text) told
  pub is : told_answer told answer

-- the answer to edit lines on a file, given what is too wide in its tree
abbrev pub IsEditAnswerBy : TextFile → ℕ → List ℕ → Option Wide → Answer → Type 0
IsEditAnswerBy file before text (Some wide) answer = answer ≡ wide_answer file.names wide
IsEditAnswerBy file before text None answer = TellsLines (opened file) before text answer

-- the answer to edit lines on a file: what is too wide in the depth-first tree of the problem
-- solved, or otherwise the result of the lines
abbrev pub IsEditAnswer : TextFile → ℕ → List ℕ → Answer → Type 0
IsEditAnswer file before text answer = IsEditAnswerBy file before text (wide_in (problem_solved file)) answer

-- the answer to edit lines after the text of a problem that has `before` lines and declares this
pub record AnswersEdit (d : Declared) (before : ℕ) (text : List ℕ) (answer : Answer) : Type 0 where
  pub file : TextFile
  pub whole : IsProblem file.problem
  pub declared : declared_by file ≡ d
  pub is : IsEditAnswer file before text answer
