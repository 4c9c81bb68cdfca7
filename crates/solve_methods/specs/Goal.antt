-- When an answer is right: the cost and the bounds of a report, by the goal of its file.
use Rattle.std.specs.Prelude.{◌≡◌, ◌≢◌, ℕ, ◌≤◌}
use Rattle.dcop_base.specs.Problem.{IsAssignment, cost}
use Rattle.problem_text.specs.File.{TextFile}
use Rattle.certificate_text.specs.declared.report.Report.{Report}
use Rattle.certificate_text.specs.declared.report.Ending.TheVariants as endings
use Rattle.certificate_text.specs.declared.report.Method.TheVariants as methods
use Rattle.minimised_problem.specs.Goal.{IsBestSum, IsAtMostWorse}
use Rattle.solve_report.specs.declared.answer.Answer.{Answer}
use Rattle.solve_report.specs.declared.answer.Answer.TheVariants as answers

-- what a report says about a file is right: its values are an assignment; its cost is their sum in
-- the file's tables; the best sum of any assignment is between its bounds; if it is solved, its
-- cost is worse than the best sum by at most its error; and for every method but ADOPT the cost is
-- the best sum
pub record IsRightReport (file : TextFile) (report : Report) : Type 0 where
  pub assignment : IsAssignment file.problem report.values
  pub cost : report.cost ≡ cost file.problem report.values
  pub enclosed : (best : ℕ) → IsBestSum file.goal file.problem best → (report.lower ≤ best) × (best ≤ report.upper)
  pub near : report.status ≡ endings.Solved → (best : ℕ) → IsBestSum file.goal file.problem best → IsAtMostWorse file.goal report.error report.cost best
  pub exact : report.method ≢ methods.Adopt → IsBestSum file.goal file.problem report.cost

-- if an answer is a report, what it says about its file is right
abbrev pub TellsRight : Answer → Type 0
TellsRight (answers.Report report file) = IsRightReport file report
TellsRight answer = Unit {0}
