-- Laws: DPOP, auto when DPOP fits, and a drill by DPOP have one answer each; an optimum of `edit`
-- is that of DPOP.
use Rattle.std.specs.Prelude.{◌≡◌, ℕ, ◌⊎◌, Bool, false, List, Some, None, Ok}
use Rattle.solve_words.specs.declared.command.Command.{Command}
use Rattle.solve_words.specs.declared.command.Format.{Format}
use Rattle.solve_words.specs.Command.{answer_to}
use Rattle.solve_report.specs.declared.answer.Answer.{Answer}
use Rattle.solve_report.specs.declared.answer.Answer.TheVariants.{Report as Reports}
use Rattle.dcop_base.specs.Whole.{IsProblem}
use Rattle.problem_text.specs.File.{TextFile}
use Rattle.problem_text.specs.Steps.{declared_by}
use Rattle.problem_text.specs.declared.edited.Edited.{Edited}
use Rattle.certificate_text.specs.declared.report.Report.{Report}
use Rattle.edit_session.specs.State.{SessionState, IsAnswerNow}
use Rattle.solve_answers.specs.declared.task.Task.TheVariants.{File}
use Rattle.solve_answers.specs.declared.task.FileTask.TheVariants as tasks
use Rattle.solve_answers.specs.Answering.{IsAnswer}
use Rattle.solve_answers.specs.Nodes.{IsLinkAnswer}
use Rattle.answer_io.specs.declared.status.Status.TheVariants.{Solved}
use Rattle.answer_io.specs.Statuses.{status_of}
use Rattle.answer_io.specs.Input.{Input, Whole}
use Rattle.solve_answers.specs.Served.{task_of}
use Rattle.solve_answers.specs.Drilling.{drill_of}
use Rattle.solve_answers.specs.declared.drilling.Drill.{Drill}
use Rattle.solve_answers.specs.FitTree.{HasFitTree}
use Rattle.answer_io.specs.InputTold.{DeclaredInput}
use Rattle.answer_io.specs.Inputs.{input_read, declared_in}

-- these words ask for DPOP on a problem in this format, with or without a certificate
pub record AskForDpop (format : Format) (certified : Bool) (words : List (List ℕ)) : Type 0 where
  pub command : Command
  pub asked : answer_to words ≡ Ok command
  pub served : task_of command ≡ Some (File format (tasks.Dpop certified))

-- two inputs, each in its format, are read alike: if both were read whole, they declare the same or
-- the same answer refuses both; otherwise the inputs are the same
abbrev pub AreReadAlike : Format → Format → Input → Input → Type 0
AreReadAlike format format' (Whole bytes) (Whole bytes') = declared_in (input_read format bytes) ≡ declared_in (input_read format' bytes')
AreReadAlike format format' input input' = input ≡ input'

-- on inputs that are read alike, all words that ask for DPOP have one answer, if all ask for a
-- certificate or none does
abbrev pub DpopAnswersAreOne : Type 0
DpopAnswersAreOne = (format format' : Format) (certified : Bool) (words words' : List (List ℕ)) (input input' : Input) (a b : Answer) → AskForDpop format certified words → AskForDpop format' certified words'
    → AreReadAlike format format' input input' → IsAnswer words input a → IsAnswer words' input' b → a ≡ b

-- an answer that words may get on an input; it may be one about the links between the nodes that
-- they ask for
abbrev pub IsGiven : List (List ℕ) → Input → Answer → Type 0
IsGiven words input answer = IsAnswer words input answer ⊎ IsLinkAnswer words input answer

-- on inputs that are read alike, all words that ask for DPOP, in any number of nodes, have one
-- solved answer, if all ask for a certificate or none does
abbrev pub SolvedAnswersAreOne : Type 0
SolvedAnswersAreOne = (format format' : Format) (certified : Bool) (words words' : List (List ℕ)) (input input' : Input) (a b : Answer) → AskForDpop format certified words → AskForDpop format' certified words'
    → AreReadAlike format format' input input' → IsGiven words input a → IsGiven words' input' b → status_of a ≡ Solved → status_of b ≡ Solved → a ≡ b

-- these words ask for auto on a problem in this format, with or without a certificate
pub record AskForAuto (format : Format) (certified : Bool) (words : List (List ℕ)) : Type 0 where
  pub command : Command
  pub error : ℕ
  pub budget : ℕ
  pub asked : answer_to words ≡ Ok command
  pub served : task_of command ≡ Some (File format (tasks.Auto error budget certified))

-- an input in this format is read as a problem whose tree is not too wide for DPOP
abbrev pub HasFitProblem : Format → Input → Type 0
HasFitProblem format (Whole bytes) = (told : DeclaredInput) × (input_read format bytes ≡ Ok told) × HasFitTree told.declared
HasFitProblem format input = ⊥

-- these words ask for DPOP, or for auto on an input with such a problem, with or without a
-- certificate
abbrev pub ComeToDpop : Format → Bool → Input → List (List ℕ) → Type 0
ComeToDpop format certified input words = AskForDpop format certified words ⊎ (AskForAuto format certified words × HasFitProblem format input)

-- on inputs that are read alike, all words that lead to DPOP (`ComeToDpop`), in any number of
-- nodes, have one solved answer, if all ask for a certificate or none does
abbrev pub FitAnswersAreOne : Type 0
FitAnswersAreOne = (format format' : Format) (certified : Bool) (words words' : List (List ℕ)) (input input' : Input) (a b : Answer) → ComeToDpop format certified input words → ComeToDpop format' certified input' words'
    → AreReadAlike format format' input input' → IsGiven words input a → IsGiven words' input' b → status_of a ≡ Solved → status_of b ≡ Solved → a ≡ b

-- these words ask for this drill
pub record AskForDrill (drill : Drill) (words : List (List ℕ)) : Type 0 where
  pub command : Command
  pub asked : answer_to words ≡ Ok command
  pub unread : task_of command ≡ None
  pub served : drill_of command ≡ Some drill

-- all words that ask for one drill by DPOP, in any number of nodes, have one solved answer
abbrev pub DrillAnswersAreOne : Type 0
DrillAnswersAreOne = (drill : Drill) (words words' : List (List ℕ)) (input input' : Input) (a b : Answer) → drill.task ≡ tasks.Dpop false → AskForDrill drill words → AskForDrill drill words'
    → IsGiven words input a → IsGiven words' input' b → status_of a ≡ Solved → status_of b ≡ Solved → a ≡ b

-- on an input of which `HasFitProblem` holds, an answer of auto is one of DPOP, if both ask for a
-- certificate or neither does
abbrev pub AutoAnswersAreThoseOfDpop : Type 0
AutoAnswersAreThoseOfDpop = (format : Format) (certified : Bool) (words words' : List (List ℕ)) (input : Input) (answer : Answer) → AskForAuto format certified words → AskForDpop format certified words' → HasFitProblem format input
    → IsAnswer words input answer → IsAnswer words' input answer

-- an optimum of a session has the values and the cost that `solve --method dpop` reports for a text
-- that declares the problem as edited so far, with or without a certificate
abbrev pub EditAnswersAreThoseOfDpop : Type 0
EditAnswersAreThoseOfDpop = (format : Format) (certified : Bool) (words : List (List ℕ)) (bytes : List ℕ) (told : DeclaredInput) (report : Report) (file : TextFile) (s : SessionState) (answer : Edited)
    → AskForDpop format certified words → input_read format bytes ≡ Ok told → told.declared ≡ declared_by s.file → IsProblem s.file.problem
    → IsAnswer words (Whole bytes) (Reports report file) → IsAnswerNow s answer → (report.values ≡ answer.values) × (report.cost ≡ answer.cost)
