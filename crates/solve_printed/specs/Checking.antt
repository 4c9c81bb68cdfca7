-- The answer to checking the text of a report on a file.
use Rattle.std.specs.Prelude.{◌≡◌, ℕ, ◌+◌, List, Result, Ok, Err}
use Rattle.dcop_base.specs.Whole.{IsProblem}
use Rattle.problem_text.specs.File.{TextFile, IsFile}
use Rattle.problem_text.specs.Declarations.{Declared}
use Rattle.problem_text.specs.Steps.{declared_by}
use Rattle.certificate_text.specs.declared.report.Report.{Report}
use Rattle.report_reader.specs.ReportLines.{Fault}
use Rattle.report_reader.specs.ReportReading.{report_read}
use Rattle.minimised_problem.specs.Verdict.{ShowsBest}
use Rattle.certificate_check.specs.Verdicts.{IsVerdict, IsExact}
use Rattle.solve_report.specs.declared.answer.Answer.{Answer}
use Rattle.solve_report.specs.declared.answer.Answer.TheVariants as answers
use Rattle.problem_text.specs.Kinds.{number_of_report}

-- the answer given what the text of a report was read as, after `before` lines: the verdict on the
-- report, which is yes exactly when the report holds with its certificate, or the first fault of
-- the text, whose line counts from the beginning of the input
abbrev pub IsReadAnswer : TextFile → ℕ → Result Report Fault → Answer → Type 0
IsReadAnswer file before (Ok report) (answers.Verdict verdict names) =
    (names ≡ file.names) × IsVerdict file report verdict × IsExact file report verdict × ShowsBest file verdict
IsReadAnswer file before (Ok report) answer = ⊥
IsReadAnswer file before (Err fault) answer = answer ≡ answers.ReportText (before + fault.line) (number_of_report fault.kind)

-- the answer to the text of a report on a file, after `before` lines
abbrev pub IsCheckAnswer : TextFile → ℕ → List ℕ → Answer → Type 0
IsCheckAnswer file before text answer = IsReadAnswer file before (report_read text file) answer

-- the answer to the text of a report, after the text of a problem that has `before` lines and
-- declares this
pub record AnswersCheck (d : Declared) (before : ℕ) (text : List ℕ) (answer : Answer) : Type 0 where
  pub file : TextFile
  pub is_file : IsFile file
  pub whole : IsProblem file.problem
  pub declared : declared_by file ≡ d
  pub is : IsCheckAnswer file before text answer
