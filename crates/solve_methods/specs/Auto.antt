-- The answer of the method auto on a file.
use Rattle.std.specs.Prelude.{◌≡◌, ℕ, Bool, Option, Some, None, is_some}
use Rattle.dcop_base.specs.Problem.{Dcop}
use Rattle.dcop_base.specs.Whole.{IsProblem}
use Rattle.pseudotree.specs.declared.width.Wide.{Wide}
use Rattle.problem_text.specs.File.{TextFile}
use Rattle.problem_text.specs.Declarations.{Declared}
use Rattle.problem_text.specs.Steps.{declared_by}
use Rattle.minimised_problem.specs.Goal.{problem_solved}
use Rattle.solve_report.specs.declared.answer.Answer.{Answer}
use Rattle.solve_methods.specs.Adopt.{IsAdoptAnswer}
use Rattle.solve_methods.specs.Dpop.{HaveAgreed, IsDpopSolved, wide_in}
use Rattle.solve_methods.specs.Reached.{HaveReached}
use Rattle.solve_methods.specs.declared.auto.Settled.{Settled}
use Rattle.solve_methods.specs.declared.auto.Settled.TheVariants.{ByDpop, ByAdopt}

-- the answer of auto on a file, given what is too wide for DPOP in its tree: that of ADOPT if
-- something is, and that of DPOP otherwise
abbrev pub IsAutoBy : TextFile → ℕ → ℕ → Bool → Option Wide → Answer → Type 0
IsAutoBy file error budget certified None answer = IsDpopSolved file certified answer
IsAutoBy file error budget certified (Some wide) answer = IsAdoptAnswer file error budget certified answer

-- the answer of auto on a file, by what is too wide in the depth-first tree of the problem solved
abbrev pub IsAutoAnswer : TextFile → ℕ → ℕ → Bool → Answer → Type 0
IsAutoAnswer file error budget certified answer = IsAutoBy file error budget certified (wide_in (problem_solved file)) answer

-- the answer of auto on a text that declares this: it is the answer on the file of the text, whose
-- joints follow from the tables
pub record AnswersAuto (d : Declared) (error budget : ℕ) (certified : Bool) (answer : Answer) : Type 0 where
  pub file : TextFile
  pub whole : IsProblem file.problem
  pub declared : declared_by file ≡ d
  pub is : IsAutoAnswer file error budget certified answer

-- something is too wide for DPOP in the depth-first tree of a problem
abbrev pub IsWide : Dcop → Type 0
IsWide p = (wide : Wide) × (wide_in p ≡ Some wide)

-- the result of the agents of a problem: what they choose by DPOP if nothing is too wide, and what
-- they reach by ADOPT otherwise
abbrev pub GivesSettled : Dcop → ℕ → ℕ → Bool → Settled → Type 0
GivesSettled p error budget certified (ByDpop chosen) = (wide_in p ≡ None) × (is_some chosen.certificate ≡ certified) × HaveAgreed p chosen
GivesSettled p error budget certified (ByAdopt reached) = IsWide p × HaveReached p error budget certified reached
