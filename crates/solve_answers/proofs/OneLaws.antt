-- Inputs that are read alike have one answer of DPOP, and of auto when DPOP fits; a drill by DPOP
-- has one answer; an optimum of `edit` is that of DPOP.
use Rattle.std.proofs.Common.{◌≡◌, ℕ, inl, inr, Bool, false, List, Option, None, Result, Ok, Err, sym, ap, subst, ◌∙◌}
use Rattle.dcop_optimum.specs.TreeOptimum.{FirstOptimaOfTreesAreOne}
use Rattle.pseudotree.specs.DepthFirst.{DepthFirstTreesAreLinked}
use Rattle.pseudotree.specs.declared.width.Wide.{Wide}
use Rattle.problem_text.specs.Declarations.{Declared}
use Rattle.problem_text.specs.Steps.{declared_by}
use Rattle.minimised_problem.specs.Goal.{problem_solved}
use Rattle.solve_methods.specs.Auto.{AnswersAuto, IsAutoBy}
use Rattle.solve_methods.specs.Dpop.{wide_in, AnswersDpop, IsAnswerBy}
use Rattle.solve_methods.specs.Drill.{drilled}
use Rattle.solve_report.specs.declared.answer.Answer.{Answer}
use Rattle.solve_report.specs.declared.answer.Answer.TheVariants as answers
use Rattle.solve_answers.specs.declared.task.Task.TheVariants.{File}
use Rattle.solve_answers.specs.declared.task.FileTask.TheVariants as tasks
use Rattle.solve_answers.specs.Answering.{IsFileAnswer, IsTextAnswer, IsInputAnswer, IsDrillAnswer, IsUnreadAnswer, IsServedAnswer, IsCommandAnswer, IsAnswer}
use Rattle.solve_answers.specs.Drilling.{made_for}
use Rattle.solve_answers.specs.Served.{task_of}
use Rattle.solve_answers.specs.declared.drilling.Drill.{Drill}
use Rattle.solve_answers.specs.declared.task.Task.{Task}
use Rattle.solve_answers.specs.declared.task.FileTask.{FileTask}
use Rattle.answer_io.specs.Input.{Input, Unread, Broken, TooLong, Whole}
use Rattle.solve_answers.specs.Same.{AreReadAlike, AskForDrill, AutoAnswersAreThoseOfDpop, ComeToDpop, DpopAnswersAreOne, DrillAnswersAreOne, EditAnswersAreThoseOfDpop, FitAnswersAreOne, HasFitProblem}
use Rattle.solve_answers.specs.FitTree.{HasFitTree}
use Rattle.solve_words.specs.declared.command.Command.{Command}
use Rattle.solve_words.specs.declared.command.Format.{Format}
use Rattle.solve_words.specs.declared.fault.WordFault.{WordFault}
use Rattle.answer_io.specs.InputTold.{DeclaredInput, told_of}
use Rattle.answer_io.specs.Inputs.{input_read, declared_in}
use Rattle.solve_answers.proofs.AnswerLaws.{fit-none, IsAnswer-task, task-IsAnswer}
use Rattle.solve_answers.proofs.EditLaws.{same_as_dpop}
use Rattle.solve_answers.proofs.GivenLaws.{solved-belongs}
use Rattle.solve_answers.proofs.SameLaws.{one_answer}

module _ (optima : FirstOptimaOfTreesAreOne) (trees : DepthFirstTreesAreLinked) (certified : Bool) where
  one_of_text : (read read' : Result DeclaredInput Answer) (a b : Answer) → declared_in read ≡ declared_in read' → IsTextAnswer (tasks.Dpop certified) read a → IsTextAnswer (tasks.Dpop certified) read' b → a ≡ b
  one_of_text (Ok t) (Ok t') a b same of_a of_b =
      let one : t.declared ≡ t'.declared = cc in
      one_answer optima trees certified t.declared a b of_a (subst (λ (d : Declared). AnswersDpop d certified b) (sym one) of_b)
  one_of_text (Ok t) (Err refusal) a b same of_a of_b = absurd (cc)
  one_of_text (Err refusal) (Ok t) a b same of_a of_b = absurd (cc)
  one_of_text (Err refusal) (Err refusal') a b same of_a of_b = let one : refusal ≡ refusal' = cc in of_a ∙ one ∙ sym of_b

  module _ (format format' : Format) where
    one_of_input : (input input' : Input) (a b : Answer) → AreReadAlike format format' input input' → IsInputAnswer (File format (tasks.Dpop certified)) input a → IsInputAnswer (File format' (tasks.Dpop certified)) input' b → a ≡ b
    one_of_input Unread Unread a b alike of_a of_b = absurd of_a
    one_of_input Unread Broken a b alike of_a of_b = absurd of_a
    one_of_input Unread TooLong a b alike of_a of_b = absurd of_a
    one_of_input Unread (Whole bytes') a b alike of_a of_b = absurd of_a
    one_of_input Broken Unread a b alike of_a of_b = absurd of_b
    one_of_input Broken Broken a b alike of_a of_b = of_a ∙ sym of_b
    one_of_input Broken TooLong a b alike of_a of_b = cc alike
    one_of_input Broken (Whole bytes') a b alike of_a of_b = cc alike
    one_of_input TooLong Unread a b alike of_a of_b = absurd of_b
    one_of_input TooLong Broken a b alike of_a of_b = cc alike
    one_of_input TooLong TooLong a b alike of_a of_b = of_a ∙ sym of_b
    one_of_input TooLong (Whole bytes') a b alike of_a of_b = cc alike
    one_of_input (Whole bytes) Unread a b alike of_a of_b = absurd of_b
    one_of_input (Whole bytes) Broken a b alike of_a of_b = cc alike
    one_of_input (Whole bytes) TooLong a b alike of_a of_b = cc alike
    one_of_input (Whole bytes) (Whole bytes') a b alike of_a of_b = one_of_text (input_read format bytes) (input_read format' bytes') a b alike of_a of_b

pub dpop_answers_one : FirstOptimaOfTreesAreOne → DepthFirstTreesAreLinked → DpopAnswersAreOne
dpop_answers_one optima trees format format' certified words words' input input' a b asks asks' alike of_a of_b =
    one_of_input optima trees certified format format' input input' a b alike
    (task-IsAnswer words asks.command (File format (tasks.Dpop certified)) input a asks.asked asks.served of_a)
    (task-IsAnswer words' asks'.command (File format' (tasks.Dpop certified)) input' b asks'.asked asks'.served of_b)

-- an answer of auto is one of DPOP if nothing is too wide
fit-dpop : (d : Declared) (error budget : ℕ) (certified : Bool) (answer : Answer) → HasFitTree d → AnswersAuto d error budget certified answer → AnswersDpop d certified answer
fit-dpop d error budget certified answer fit is =
    let none : wide_in (problem_solved is.file) ≡ None = fit-none d fit is.file is.whole is.declared in record {
      file = is.file;
      whole = is.whole;
      declared = is.declared;
      is =
          subst (λ (wide : Option Wide). IsAnswerBy is.file certified wide answer) (sym none)
          (subst (λ (wide : Option Wide). IsAutoBy is.file error budget certified wide answer) none is.is);
    }

auto_of_input : (format : Format) (error budget : ℕ) (certified : Bool) (input : Input) (answer : Answer) → HasFitProblem format input → IsInputAnswer (File format (tasks.Auto error budget certified)) input answer → IsInputAnswer (File format (tasks.Dpop certified)) input answer
auto_of_input format error budget certified Unread answer fit is = absurd fit
auto_of_input format error budget certified Broken answer fit is = absurd fit
auto_of_input format error budget certified TooLong answer fit is = absurd fit
auto_of_input format error budget certified (Whole bytes) answer fit is =
    subst (λ (read : Result DeclaredInput Answer). IsTextAnswer (tasks.Dpop certified) read answer) (sym fit.1)
    (fit-dpop fit.0.declared error budget certified answer fit.2 (subst (λ (read : Result DeclaredInput Answer). IsTextAnswer (tasks.Auto error budget certified) read answer) fit.1 is))

pub auto_answers_dpop : AutoAnswersAreThoseOfDpop
auto_answers_dpop format certified words words' input answer asks asks' fit is =
    IsAnswer-task words' asks'.command (File format (tasks.Dpop certified)) input answer asks'.asked asks'.served
    (auto_of_input format asks.error asks.budget certified input answer fit
    (task-IsAnswer words asks.command (File format (tasks.Auto asks.error asks.budget certified)) input answer asks.asked asks.served is))

-- an answer to words that lead to DPOP is one of DPOP
come_to_input : (format : Format) (certified : Bool) (words : List (List ℕ)) (input : Input) (answer : Answer) → ComeToDpop format certified input words → IsAnswer words input answer
    → IsInputAnswer (File format (tasks.Dpop certified)) input answer
come_to_input format certified words input answer (inl asks) is = task-IsAnswer words asks.command (File format (tasks.Dpop certified)) input answer asks.asked asks.served is
come_to_input format certified words input answer (inr come) is =
    auto_of_input format come.0.error come.0.budget certified input answer come.1
    (task-IsAnswer words come.0.command (File format (tasks.Auto come.0.error come.0.budget certified)) input answer come.0.asked come.0.served is)

pub fit_answers_one : FirstOptimaOfTreesAreOne → DepthFirstTreesAreLinked → FitAnswersAreOne
fit_answers_one optima trees format format' certified words words' input input' a b come come' alike given given' solved solved' =
    one_of_input optima trees certified format format' input input' a b alike
    (come_to_input format certified words input a come (solved-belongs words input a given solved))
    (come_to_input format' certified words' input' b come' (solved-belongs words' input' b given' solved'))

-- an answer to words that ask for a drill is one of that drill
drill-belongs : (drill : Drill) (words : List (List ℕ)) (input : Input) (answer : Answer) → AskForDrill drill words → IsAnswer words input answer → IsDrillAnswer drill answer
drill-belongs drill words input answer asks is =
    let served : IsServedAnswer asks.command (task_of asks.command) input answer = subst (λ (r : Result Command WordFault). IsCommandAnswer r input answer) asks.asked is in
    let unread : IsServedAnswer asks.command None input answer = subst (λ (t : Option Task). IsServedAnswer asks.command t input answer) asks.unread served in
    subst (λ (d : Option Drill). IsUnreadAnswer d answer) asks.served unread.1

-- the answer of DPOP that a drill summarizes
drill-dpop : (drill : Drill) (answer : Answer) → drill.task ≡ tasks.Dpop false → (is : IsDrillAnswer drill answer) → AnswersDpop (declared_by (made_for drill)) false is.solved
drill-dpop drill answer by is = subst (λ (t : FileTask). IsFileAnswer t (told_of (made_for drill) None) is.solved) by is.is

pub drill_answers_one : FirstOptimaOfTreesAreOne → DepthFirstTreesAreLinked → DrillAnswersAreOne
drill_answers_one optima trees drill words words' input input' a b by asks asks' given given' solved solved' =
    let of_a = drill-belongs drill words input a asks (solved-belongs words input a given solved) in
    let of_b = drill-belongs drill words' input' b asks' (solved-belongs words' input' b given' solved') in
    let same : of_a.solved ≡ of_b.solved = one_answer optima trees false (declared_by (made_for drill)) of_a.solved of_b.solved (drill-dpop drill a by of_a) (drill-dpop drill b by of_b) in
    of_a.told ∙ ap (λ (answer : Answer). drilled drill.seed answer) same ∙ sym of_b.told

pub edit_answers_dpop : FirstOptimaOfTreesAreOne → DepthFirstTreesAreLinked → EditAnswersAreThoseOfDpop
edit_answers_dpop optima trees format certified words bytes told report file s answer asks read declares whole is now =
    same_as_dpop optima trees s answer whole now told.declared certified report file declares
    (subst (λ (r : Result DeclaredInput Answer). IsTextAnswer (tasks.Dpop certified) r (answers.Report report file)) read
    (task-IsAnswer words asks.command (File format (tasks.Dpop certified)) (Whole bytes) (answers.Report report file) asks.asked asks.served is))
