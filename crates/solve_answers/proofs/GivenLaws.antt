-- A solved answer is not one about links between nodes.
use Rattle.std.proofs.Common.{◌≡◌, ◌≢◌, ℕ, ◌⊎◌, inl, inr, List, refl, sym, ap, ◌∙◌}
use Rattle.tcp_links.specs.declared.fault.Difference.{Difference}
use Rattle.tcp_links.specs.declared.fault.Difference.TheVariants.{Message, Bytes}
use Rattle.problem_text.specs.Declarations.{Declared}
use Rattle.solve_report.specs.declared.answer.Answer.{Answer}
use Rattle.answer_io.specs.declared.status.Status.TheVariants.{Solved, LinkFault, LinkDiffers}
use Rattle.answer_io.specs.Statuses.{status_of}
use Rattle.answer_io.specs.Input.{Input}
use Rattle.solve_answers.specs.Nodes.{difference_answer, TellsDifference, IsOfLinks}
use Rattle.solve_answers.specs.Answering.{IsAnswer}
use Rattle.solve_answers.specs.declared.task.FileTask.{FileTask}
use Rattle.solve_answers.specs.Same.{IsGiven, DpopAnswersAreOne, SolvedAnswersAreOne}

-- a difference has a status of its own
pub difference-status : (names : List (List ℕ)) (d : Difference) → status_of (difference_answer names d) ≡ LinkDiffers
difference-status names (Message from to at sent taken) = refl
difference-status names (Bytes round from_node to_node place sent taken) = refl

told-status : (task : FileTask) (nodes : ℕ) (d : Declared) (answer : Answer) → TellsDifference task nodes d answer → status_of answer ≡ LinkDiffers
told-status task nodes d answer t = ap status_of t.told ∙ difference-status t.file.names t.difference

-- an answer about links has one of two statuses
pub links-status : (task : FileTask) (nodes : ℕ) (d : Declared) (answer : Answer) → IsOfLinks task nodes d answer → (status_of answer ≡ LinkFault) ⊎ (status_of answer ≡ LinkDiffers)
links-status task nodes d answer (inl failed) = inl (ap status_of failed)
links-status task nodes d answer (inr differs) = inr (told-status task nodes d answer differs)

-- an answer that says nothing about links belongs to the words and the input
pub linkless-belongs : (words : List (List ℕ)) (input : Input) (answer : Answer) → IsGiven words input answer → status_of answer ≢ LinkFault → status_of answer ≢ LinkDiffers → IsAnswer words input answer
linkless-belongs words input answer (inl belongs) fine same = belongs
linkless-belongs words input answer (inr links) fine same = elim (links-status _ _ _ answer links.links) [
  | inl failed ↦ absurd (fine failed)
  | inr differs ↦ absurd (same differs)
]

-- a solved answer belongs to the words and the input
pub solved-belongs : (words : List (List ℕ)) (input : Input) (answer : Answer) → IsGiven words input answer → status_of answer ≡ Solved → IsAnswer words input answer
solved-belongs words input answer given solved =
    linkless-belongs words input answer given
    (λ failed. let e : LinkFault ≡ Solved = sym failed ∙ solved in cc e)
    (λ differs. let e : LinkDiffers ≡ Solved = sym differs ∙ solved in cc e)

pub solved_one : DpopAnswersAreOne → SolvedAnswersAreOne
solved_one one format format' certified words words' input input' a b asks asks' alike given given' solved solved' =
    one format format' certified words words' input input' a b asks asks' alike (solved-belongs words input a given solved) (solved-belongs words' input' b given' solved')
