-- The answer of the method cut on a file.
use Rattle.std.specs.Prelude.{◌≡◌, ℕ, ◌*◌, Bool, List, Option, Some, None, Result, Ok, Err}
use Rattle.dcop_base.specs.Problem.{Dcop, IsAssignment, cost}
use Rattle.dcop_base.specs.Whole.{IsProblem}
use Rattle.pseudotree.specs.DepthFirst.{dfs}
use Rattle.run_laws.specs.CutSet.{IsCutSet}
use Rattle.run_laws.specs.Kept.{IsCutAnswer}
use Rattle.run_laws.specs.Turns.{turn_count}
use Rattle.cut_dpop.specs.End.{IsCutEnd, IsCutRefused}
use Rattle.cut_dpop.specs.Refusal.{refusal}
use Rattle.cut_dpop.specs.Start.{turn_deliveries}
use Rattle.cut_dpop.specs.declared.run.CutEnd.{CutEnd}
use Rattle.cut_dpop.specs.declared.fault.CutFault.{CutFault}
use Rattle.cut_dpop.specs.declared.fault.CutFault.TheVariants as faults
use Rattle.problem_text.specs.File.{TextFile}
use Rattle.problem_text.specs.Declarations.{Declared}
use Rattle.problem_text.specs.Steps.{declared_by}
use Rattle.certificate_text.specs.declared.report.Report.{Report}
use Rattle.certificate_text.specs.declared.report.Ending.TheVariants.{Solved}
use Rattle.certificate_text.specs.declared.report.Method.TheVariants.{Cut}
use Rattle.minimised_problem.specs.Goal.{problem_solved, IsBestSum}
use Rattle.solve_report.specs.declared.answer.Answer.{Answer}
use Rattle.solve_report.specs.declared.answer.Answer.TheVariants as answers
use Rattle.solve_cut.specs.Certified.{IsCutCertified, HasTurnsIf}

-- the variables that are cut so that no joined table on the depth-first tree of a problem has more
-- cells than a limit
abbrev pub IsCutOf : Dcop → ℕ → List ℕ → Type 0
IsCutOf p limit cut = IsCutSet p (dfs p) limit cut

-- why a cut of a problem on its depth-first tree is refused, if it is; `keeps` says whether the
-- tables of all turns are kept
abbrev pub refusal_of : Dcop → List ℕ → Bool → Option CutFault
refusal_of p cut keeps = refusal p (dfs p) cut keeps

-- values of a problem are those of the first turn of least cost, on its depth-first tree
abbrev pub AreOfFirstTurn : Dcop → List ℕ → List ℕ → Type 0
AreOfFirstTurn p cut values = (least : ℕ) × IsCutAnswer p (dfs p) cut least values

-- a report of a cut on a file: its values are those of the first turn of least cost of the problem
-- solved; its deliveries are those of all turns; its cost is that of its values in the file's
-- problem, and is the best sum; both bounds are the cost; and it has a certificate if one is
-- requested
pub record IsCutReport (file : TextFile) (cut : List ℕ) (keeps : Bool) (report : Report) : Type 0 where
  pub status : report.status ≡ Solved
  pub method : report.method ≡ Cut
  pub goal : report.goal ≡ file.goal
  pub error : report.error ≡ 0
  pub deliveries : report.deliveries ≡ turn_count file.problem cut * turn_deliveries file.problem
  pub first : AreOfFirstTurn (problem_solved file) cut report.values
  pub cost : report.cost ≡ cost file.problem report.values
  pub best : IsBestSum file.goal file.problem report.cost
  pub lower : report.lower ≡ report.cost
  pub upper : report.upper ≡ report.cost
  pub certificate : IsCutCertified keeps file cut report

-- an answer that has such a report and its file
pub record IsCutSolved (file : TextFile) (cut : List ℕ) (keeps : Bool) (answer : Answer) : Type 0 where
  pub report : Report
  pub is : answer ≡ answers.Report report file
  pub form : IsCutReport file cut keeps report

-- the answer if a cut is refused for this fault; there is none if memory runs out
abbrev pub IsRefusalAnswer : CutFault → Answer → Type 0
IsRefusalAnswer (faults.TooMany turns) answer = answer ≡ answers.ManyTurns turns
IsRefusalAnswer (faults.Total cells) answer = answer ≡ answers.WideTotal cells
IsRefusalAnswer faults.NoMemory answer = ⊥

-- the answer of a cut on a file, given what refuses the cut, if anything
abbrev pub IsCutAnswerBy : TextFile → List ℕ → Bool → Option CutFault → Answer → Type 0
IsCutAnswerBy file cut keeps (Some fault) answer = IsRefusalAnswer fault answer
IsCutAnswerBy file cut keeps None answer = IsCutSolved file cut keeps answer

-- the answer of the method cut on a text that declares this, with this limit of cells: what refuses
-- the cut of the problem solved for the file of the text, whose joints follow from the tables, or
-- otherwise a report, with a certificate if one is requested
pub record AnswersCut (d : Declared) (limit : ℕ) (keeps : Bool) (answer : Answer) : Type 0 where
  pub file : TextFile
  pub whole : IsProblem file.problem
  pub declared : declared_by file ≡ d
  pub cut : List ℕ
  pub is_cut : IsCutOf (problem_solved file) limit cut
  pub is : IsCutAnswerBy file cut keeps (refusal_of (problem_solved file) cut keeps) answer

-- the result of a cut of a problem on its depth-first tree: its end, or what refuses it; memory may
-- run out at any cut
abbrev pub GivesCut : Dcop → ℕ → Bool → Result CutEnd CutFault → Type 0
GivesCut p limit keeps (Ok end) = IsCutEnd p (dfs p) limit keeps end
GivesCut p limit keeps (Err fault) = IsCutRefused p (dfs p) limit keeps fault

-- the end of a cut of the problem solved, as a result for the file's own problem: its values are an
-- assignment whose cost is the best sum, and it has the tables of all turns if a certificate is
-- requested
pub record IsBestCut (file : TextFile) (keeps : Bool) (end : CutEnd) : Type 0 where
  pub deliveries : end.deliveries ≡ turn_count file.problem end.cut * turn_deliveries file.problem
  pub first : AreOfFirstTurn (problem_solved file) end.cut end.values
  pub assignment : IsAssignment file.problem end.values
  pub best : IsBestSum file.goal file.problem (cost file.problem end.values)
  pub turns : HasTurnsIf keeps file end
