-- The answer of DPOP on a file.
use Rattle.std.specs.Prelude.{◌≡◌, ℕ, Bool, ◌-◌, ◌*◌, List, length, Option, Some, None, IfSome, is_some}
use Rattle.dcop_base.specs.Problem.{Dcop, IsAssignment, cost}
use Rattle.dcop_base.specs.Whole.{IsProblem}
use Rattle.pseudotree.specs.DepthFirst.{dfs}
use Rattle.pseudotree.specs.Width.{wide_of}
use Rattle.pseudotree.specs.declared.width.Wide.{Wide}
use Rattle.pseudotree.specs.declared.width.Wide.TheVariants.{Agent, Total}
use Rattle.dcop_optimum.specs.TreeOptimum.{IsFirstOptimumOf}
use Rattle.problem_text.specs.File.{TextFile}
use Rattle.problem_text.specs.Declarations.{Declared}
use Rattle.problem_text.specs.Steps.{declared_by}
use Rattle.problem_text.specs.declared.file.Goal.{Goal}
use Rattle.certificate_text.specs.declared.report.Report.{Report}
use Rattle.certificate_text.specs.declared.report.Ending.TheVariants.{Solved}
use Rattle.certificate_text.specs.declared.report.Method.TheVariants.{Dpop}
use Rattle.solve_report.specs.declared.answer.Answer.{Answer}
use Rattle.solve_report.specs.declared.answer.Answer.TheVariants as answers
use Rattle.minimised_problem.specs.Goal.{solved, IsBestSum}
use Rattle.solve_methods.specs.Certified.{HasUtilsOf, IsCertified}
use Rattle.solve_methods.specs.declared.dpop.Chosen.{Chosen}
use Rattle.solve_methods.specs.declared.dpop.Choice.{Choice}
use Rattle.solve_methods.specs.declared.dpop.Choice.TheVariants as choices

-- how many messages DPOP takes: for each variable but the root, one UTIL from it and one VALUE to
-- it
abbrev pub dpop_deliveries : Dcop → ℕ
dpop_deliveries p = 2 * (length p.sizes - 1)

-- what is too wide in the depth-first tree of a problem, if anything: the first agent whose joined
-- table is too wide, or otherwise all that is sent
abbrev pub wide_in : Dcop → Option Wide
wide_in p = wide_of p (dfs p)

-- values of a problem are the first optimum of its depth-first tree
abbrev pub IsFirstOfTree : Dcop → List ℕ → Type 0
IsFirstOfTree p values = IsFirstOptimumOf p (dfs p) values

-- a report of DPOP on a file, with a certificate if one is requested: its values are the first
-- optimum of the depth-first tree of the problem solved; its cost is that of its values in the
-- file's problem; and both bounds are the cost
pub record IsDpopReport (file : TextFile) (certified : Bool) (report : Report) : Type 0 where
  pub status : report.status ≡ Solved
  pub method : report.method ≡ Dpop
  pub goal : report.goal ≡ file.goal
  pub error : report.error ≡ 0
  pub deliveries : report.deliveries ≡ dpop_deliveries file.problem
  pub first : IsFirstOfTree (solved file.goal file.problem) report.values
  pub cost : report.cost ≡ cost file.problem report.values
  pub lower : report.lower ≡ report.cost
  pub upper : report.upper ≡ report.cost
  pub certificate : IsCertified certified file report

-- an answer that has such a report and its file
abbrev pub IsDpopSolved : TextFile → Bool → Answer → Type 0
IsDpopSolved file certified (answers.Report report same) = (same ≡ file) × IsDpopReport file certified report
IsDpopSolved file certified answer = ⊥

-- the answer if this is too wide
abbrev pub wide_answer : List (List ℕ) → Wide → Answer
wide_answer names (Agent var cells) = answers.WideAgent var cells names
wide_answer names (Total cells) = answers.WideTotal cells

-- the answer of DPOP on a file, given what is too wide in its tree
abbrev pub IsAnswerBy : TextFile → Bool → Option Wide → Answer → Type 0
IsAnswerBy file certified (Some wide) answer = answer ≡ wide_answer file.names wide
IsAnswerBy file certified None answer = IsDpopSolved file certified answer

-- the answer of DPOP on a file: what is too wide in the depth-first tree of the problem solved, or
-- otherwise a report
abbrev pub IsDpopAnswer : TextFile → Bool → Answer → Type 0
IsDpopAnswer file certified answer = IsAnswerBy file certified (wide_in (solved file.goal file.problem)) answer

-- the answer of DPOP on a text that declares this: it is the answer on the file of the text, whose
-- joints follow from the tables
pub record AnswersDpop (d : Declared) (certified : Bool) (answer : Answer) : Type 0 where
  pub file : TextFile
  pub whole : IsProblem file.problem
  pub declared : declared_by file ≡ d
  pub is : IsDpopAnswer file certified answer

-- the choice of the agents of a problem: the first optimum of its depth-first tree, with as many
-- messages as DPOP takes; a certificate, if there is one, has the tables of all variables
pub record HaveAgreed (p : Dcop) (chosen : Chosen) : Type 0 where
  pub first : IsFirstOfTree p chosen.values
  pub deliveries : chosen.deliveries ≡ dpop_deliveries p
  pub certificate : IfSome chosen.certificate (HasUtilsOf p)

-- the choice of the agents of a problem, with a certificate exactly when one is requested, or what
-- is too wide in its tree
abbrev pub GivesChosen : Dcop → Bool → Choice → Type 0
GivesChosen p certified (choices.Values chosen) = (wide_in p ≡ None) × (is_some chosen.certificate ≡ certified) × HaveAgreed p chosen
GivesChosen p certified (choices.TooWide wide) = wide_in p ≡ Some wide

-- the choice of the agents of the problem solved, as a choice for the problem itself: its values
-- are an assignment whose cost is the best sum
pub record AreBestChosen (goal : Goal) (p : Dcop) (chosen : Chosen) : Type 0 where
  pub whole : IsProblem p
  pub fits : wide_in (solved goal p) ≡ None
  pub first : IsFirstOfTree (solved goal p) chosen.values
  pub deliveries : chosen.deliveries ≡ dpop_deliveries p
  pub assignment : IsAssignment p chosen.values
  pub best : IsBestSum goal p (cost p chosen.values)
  pub certificate : IfSome chosen.certificate (HasUtilsOf (solved goal p))
