-- The answer of ADOPT on a file.
use Rattle.std.specs.Prelude.{◌≡◌, ℕ, ◌≤◌, Bool, false, List}
use Rattle.std.specs.List.{flat_map}
use Rattle.dcop_base.specs.Problem.{Dcop}
use Rattle.dcop_base.specs.Whole.{IsProblem}
use Rattle.pseudotree.specs.DepthFirst.{dfs}
use Rattle.protocol_steps.specs.declared.event.Event.{Event}
use Rattle.protocol_steps.specs.Network.{Network, start_state}
use Rattle.protocol_steps.specs.Effect.{has_ended, deliveries}
use Rattle.protocol_steps.specs.Rounds.{AreRounds}
use Rattle.protocol_steps.specs.TreeAgents.{adopt_agents}
use Rattle.run_laws.specs.AdoptRun.{IsAdoptRun}
use Rattle.problem_text.specs.File.{TextFile}
use Rattle.problem_text.specs.Declarations.{Declared}
use Rattle.problem_text.specs.Steps.{declared_by}
use Rattle.certificate_text.specs.declared.report.Report.{Report}
use Rattle.certificate_text.specs.declared.report.Method.TheVariants.{Adopt}
use Rattle.minimised_problem.specs.Goal.{problem_solved}
use Rattle.minimised_problem.specs.LogEnds.{TellsEnd}
use Rattle.solve_methods.specs.Certified.{IsLogged}
use Rattle.solve_report.specs.declared.answer.Answer.{Answer}
use Rattle.solve_report.specs.declared.answer.Answer.TheVariants as answers

-- a run of the ADOPT agents of a problem on its depth-first tree, for a requested error; each of
-- its rounds begins with fewer deliveries than the budget, and it ends in this network
pub record IsAdoptPlay (p : Dcop) (error budget : ℕ) (end : Network) : Type 0 where
  pub rounds : List (List Event)
  pub run : IsAdoptRun p (dfs p) error (flat_map (λ es. es) rounds) end
  pub in_rounds : AreRounds budget (start_state (adopt_agents p (dfs p) error)) rounds end

-- a report of ADOPT on a file: it describes the end of such a run on the problem solved; if an
-- agent has not ended, the budget is spent; and if a certificate is requested, it has the log of
-- exactly that run
pub record IsAdoptReport (file : TextFile) (error budget : ℕ) (certified : Bool) (report : Report) : Type 0 where
  pub end : Network
  pub play : IsAdoptPlay (problem_solved file) error budget end
  pub told : TellsEnd file end report
  pub spent : has_ended end ≡ false → budget ≤ deliveries end
  pub method : report.method ≡ Adopt
  pub goal : report.goal ≡ file.goal
  pub error_told : report.error ≡ error
  pub certificate : IsLogged certified file play.rounds end report

-- the answer of ADOPT on a file is a report of ADOPT on it
abbrev pub IsAdoptAnswer : TextFile → ℕ → ℕ → Bool → Answer → Type 0
IsAdoptAnswer file error budget certified (answers.Report report same) = (same ≡ file) × IsAdoptReport file error budget certified report
IsAdoptAnswer file error budget certified answer = ⊥

-- the answer of ADOPT on a text that declares this: it is the answer on the file of the text, whose
-- joints follow from the tables
pub record AnswersAdopt (d : Declared) (error budget : ℕ) (certified : Bool) (answer : Answer) : Type 0 where
  pub file : TextFile
  pub whole : IsProblem file.problem
  pub declared : declared_by file ≡ d
  pub is : IsAdoptAnswer file error budget certified answer
