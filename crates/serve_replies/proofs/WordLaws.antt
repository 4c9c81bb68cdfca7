-- The words of a reply ask for DPOP, in one node and without a certificate.
use Rattle.std.proofs.Common.{◌≡◌, ℕ, ◌<◌, false, inl, inr, Result, Ok, IfOk, refl, sym, subst, ◌∙◌, arith}
use Rattle.solve_words.specs.Command.{answer_to}
use Rattle.solve_words.specs.declared.command.Choice.TheVariants.{Dpop}
use Rattle.solve_words.specs.declared.command.Command.{Command}
use Rattle.solve_words.specs.declared.command.Command.TheVariants.{Solve}
use Rattle.solve_words.specs.declared.command.Format.TheVariants.{Dcop as Own}
use Rattle.solve_words.specs.declared.fault.WordFault.{WordFault}
use Rattle.answer_io.specs.Input.{Input}
use Rattle.solve_report.specs.declared.answer.Answer.{Answer}
use Rattle.solve_answers.specs.Answering.{IsInputAnswer, IsCommandAnswer, IsAnswer}
use Rattle.solve_answers.specs.Nodes.{nodes_of, AskForNodes, IsLinkAnswer}
use Rattle.solve_answers.specs.Same.{AskForDpop, IsGiven}
use Rattle.solve_answers.specs.declared.task.Task.TheVariants.{File}
use Rattle.solve_answers.specs.declared.task.FileTask.TheVariants as tasks
use Rattle.serve_replies.specs.Reply.{dpop_words}

-- the command of these words
dpop_command : Command
dpop_command = Solve Dpop 1 0 1000000 1 false Own 1048576

asked : answer_to dpop_words ≡ Ok dpop_command
unfolding dpop_command
asked = refl

pub asks_dpop : AskForDpop Own false dpop_words
unfolding dpop_command
asks_dpop = record { command = dpop_command; asked = asked; served = refl }

-- what belongs to these words is the answer of DPOP
pub of_words : (input : Input) (answer : Answer) → IsAnswer dpop_words input answer → IsInputAnswer (File Own (tasks.Dpop false)) input answer
unfolding dpop_command
of_words input answer is = subst (λ (r : Result Command WordFault). IsCommandAnswer r input answer) asked is

pub to_words : (input : Input) (answer : Answer) → IsInputAnswer (File Own (tasks.Dpop false)) input answer → IsAnswer dpop_words input answer
unfolding dpop_command
to_words input answer is = subst (λ (r : Result Command WordFault). IsCommandAnswer r input answer) (sym asked) is

-- the command of these words asks for one node
one_node : (command : Command) → answer_to dpop_words ≡ Ok command → nodes_of command ≡ 1
unfolding dpop_command
one_node command is = subst (λ (r : Result Command WordFault). IfOk r (λ c. nodes_of c ≡ 1)) (sym asked ∙ is) refl

-- so no answer that these words may get is one about links
pub own_answer : (input : Input) (answer : Answer) → IsGiven dpop_words input answer → IsAnswer dpop_words input answer
own_answer input answer (inl belongs) = belongs
own_answer input answer (inr links) =
    let one : nodes_of links.asks.command ≡ 1 = one_node links.asks.command links.asks.asked in
    let many : 1 < nodes_of links.asks.command = links.asks.many in
    absurd (omega (arith, one, many))
