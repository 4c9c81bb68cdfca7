-- Cuts that nothing refuses.
use Rattle.std.specs.Prelude.{◌≡◌, ℕ, ◌≤◌, Bool, List, None}
use Rattle.dcop_base.specs.Limits.{size_limit}
use Rattle.dcop_base.specs.Whole.{IsProblem}
use Rattle.problem_text.specs.File.{TextFile}
use Rattle.problem_text.specs.Declarations.{Declared}
use Rattle.problem_text.specs.Steps.{declared_by}
use Rattle.certificate_text.specs.declared.report.Report.{Report}
use Rattle.certificate_text.specs.declared.report.Ending.TheVariants.{Solved}
use Rattle.minimised_problem.specs.Goal.{problem_solved}
use Rattle.solve_report.specs.declared.answer.Answer.{Answer}
use Rattle.solve_report.specs.declared.answer.Answer.TheVariants as answers
use Rattle.solve_cut.specs.Cut.{IsCutOf, refusal_of, AnswersCut}

-- nothing refuses the cut of the file of a text that declares this, with this limit of cells, and
-- with or without a certificate
pub record HasAllowedCut (d : Declared) (limit : ℕ) (keeps : Bool) : Type 0 where
  pub file : TextFile
  pub whole : IsProblem file.problem
  pub declared : declared_by file ≡ d
  pub cut : List ℕ
  pub is_cut : IsCutOf (problem_solved file) limit cut
  pub allowed : refusal_of (problem_solved file) cut keeps ≡ None

-- an answer is a solved report
pub record IsSolvedReport (answer : Answer) : Type 0 where
  pub report : Report
  pub file : TextFile
  pub is : answer ≡ answers.Report report file
  pub solved : report.status ≡ Solved

-- if nothing refuses the cut, an answer of the method cut is a solved report
abbrev pub AllowedCutsAreSolved : Type 0
AllowedCutsAreSolved = (d : Declared) (limit : ℕ) (keeps : Bool) (answer : Answer) → size_limit ≤ limit → HasAllowedCut d limit keeps → AnswersCut d limit keeps answer → IsSolvedReport answer
