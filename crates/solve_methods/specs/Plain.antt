-- The answer of plain search on a file.
use Rattle.std.specs.Prelude.{◌≡◌, ℕ, ◌<◌, ◌≤◌, min, List, None, Result, Ok, Err}
use Rattle.dcop_base.specs.Problem.{Dcop, cost}
use Rattle.dcop_optimum.specs.Optimum.{IsFirstOptimum, assignment_count}
use Rattle.dcop_base.specs.Limits.{assignment_limit, count_limit}
use Rattle.dcop_optimum.specs.declared.plain.PlainFault.{PlainFault}
use Rattle.dcop_optimum.specs.declared.plain.PlainFault.TheVariants as faults
use Rattle.problem_text.specs.File.{TextFile}
use Rattle.certificate_text.specs.declared.report.Report.{Report}
use Rattle.certificate_text.specs.declared.report.Ending.TheVariants.{Solved}
use Rattle.certificate_text.specs.declared.report.Method.TheVariants.{Plain}
use Rattle.certificate_text.specs.Named.{CanTell}
use Rattle.solve_report.specs.declared.answer.Answer.{Answer}
use Rattle.solve_report.specs.declared.answer.Answer.TheVariants as answers
use Rattle.minimised_problem.specs.Goal.{solved, IsBestSum}
use Rattle.solve_methods.specs.Goal.{IsRightReport}

-- a report of plain search on a file: its cost is that of its values in the file's problem, and
-- both bounds are the cost
pub record IsPlainReport (file : TextFile) (report : Report) : Type 0 where
  pub status : report.status ≡ Solved
  pub method : report.method ≡ Plain
  pub goal : report.goal ≡ file.goal
  pub error : report.error ≡ 0
  pub deliveries : report.deliveries ≡ 0
  pub cost : report.cost ≡ cost file.problem report.values
  pub lower : report.lower ≡ report.cost
  pub upper : report.upper ≡ report.cost
  pub certificate : report.certificate ≡ None

-- the values of a report are the first optimum of the problem solved
abbrev pub HasFirstOptimum : TextFile → Report → Type 0
HasFirstOptimum file report = IsFirstOptimum (solved file.goal file.problem) report.values

-- a number of assignments is too many to try; it is reported as this number, which is at most
-- count_limit
abbrev pub IsTooMany : ℕ → ℕ → Type 0
IsTooMany count told = (assignment_limit < count) × (told ≡ min count count_limit)

-- the first optimum of a problem, unless the problem has too many assignments or memory runs out
abbrev pub GivesFirst : Dcop → Result (List ℕ) PlainFault → Type 0
GivesFirst p (Ok values) = (assignment_count p ≤ assignment_limit) × IsFirstOptimum p values
GivesFirst p (Err (faults.TooMany assignments)) = IsTooMany (assignment_count p) assignments
GivesFirst p (Err faults.NoMemory) = Unit {0}

-- values of a file: the first optimum of the problem solved, whose cost in the file's problem is
-- the best sum
pub record AreBestValues (file : TextFile) (values : List ℕ) : Type 0 where
  pub few : assignment_count file.problem ≤ assignment_limit
  pub first : IsFirstOptimum (solved file.goal file.problem) values
  pub best : IsBestSum file.goal file.problem (cost file.problem values)

-- the best values of a file, unless the file has too many assignments or memory runs out
abbrev pub GivesBest : TextFile → Result (List ℕ) PlainFault → Type 0
GivesBest file (Ok values) = AreBestValues file values
GivesBest file (Err (faults.TooMany assignments)) = IsTooMany (assignment_count file.problem) assignments
GivesBest file (Err faults.NoMemory) = Unit {0}

-- a solved report of plain search on a file, which can be written with the names of the file
pub record IsPlainSolved (file : TextFile) (report : Report) : Type 0 where
  pub few : assignment_count file.problem ≤ assignment_limit
  pub form : IsPlainReport file report
  pub first : HasFirstOptimum file report
  pub right : IsRightReport file report
  pub told : CanTell report file

-- the answer of plain search on a file: a solved report, or too many assignments
abbrev pub IsPlainAnswer : TextFile → Answer → Type 0
IsPlainAnswer file (answers.Report report same) = (same ≡ file) × IsPlainSolved file report
IsPlainAnswer file (answers.Many assignments) = IsTooMany (assignment_count file.problem) assignments
IsPlainAnswer file answer = ⊥
