-- Agents in more than one node: which words ask for them, and the answers about the links between
-- nodes.
use Rattle.std.specs.Prelude.{◌≡◌, ◌≢◌, ℕ, ◌<◌, ◌≤◌, ◌⊎◌, List, Option, Some, None, Result, Ok, Err, option_map}
use Rattle.dcop_edge.specs.Faults.{Rose}
use Rattle.dcop_base.specs.Whole.{IsProblem}
use Rattle.dcop_base.specs.declared.memory.NoMemory.{NoMemory}
use Rattle.protocol_steps.specs.declared.message.Message.{Message as Sent}
use Rattle.message_code.specs.Code.{code_of}
use Rattle.tcp_links.specs.declared.fault.Difference.{Difference}
use Rattle.tcp_links.specs.declared.fault.Difference.TheVariants.{Message, Bytes}
use Rattle.tcp_links.specs.declared.fault.NodeFault.{NodeFault}
use Rattle.tcp_links.specs.declared.fault.NodeFault.TheVariants.{Failed, Differs, NoMemory as no_memory}
use Rattle.problem_text.specs.Declarations.{Declared}
use Rattle.problem_text.specs.File.{TextFile}
use Rattle.problem_text.specs.Steps.{declared_by}
use Rattle.minimised_problem.specs.Goal.{problem_solved}
use Rattle.solve_words.specs.declared.command.Command.{Command}
use Rattle.solve_words.specs.declared.command.Command.TheVariants.{Solve, Drill}
use Rattle.solve_words.specs.Command.{answer_to}
use Rattle.solve_report.specs.declared.answer.Answer.{Answer}
use Rattle.solve_report.specs.declared.answer.Answer.TheVariants as answers
use Rattle.answer_io.specs.declared.status.Status.TheVariants.{LinkFault, LinkDiffers}
use Rattle.answer_io.specs.Statuses.{status_of}
use Rattle.answer_io.specs.Input.{Input, Unread, Whole}
use Rattle.answer_io.specs.InputTold.{DeclaredInput, told_of}
use Rattle.answer_io.specs.Inputs.{input_read}
use Rattle.solve_agents.specs.Differing.{HaveDiffered}
use Rattle.solve_answers.specs.Answering.{IsTextAnswer, IsTaskAnswer, IsDrillAnswer, IsUnreadAnswer}
use Rattle.solve_answers.specs.Served.{task_of}
use Rattle.solve_answers.specs.Drilling.{drill_of, made_for}
use Rattle.solve_answers.specs.Phases.{IsPhaseOf}
use Rattle.solve_answers.specs.declared.drilling.Drill.{Drill as Drilled}
use Rattle.solve_answers.specs.declared.task.Task.{Task}
use Rattle.solve_answers.specs.declared.task.Task.TheVariants.{File}
use Rattle.solve_answers.specs.declared.task.FileTask.{FileTask}

-- how many nodes a command asks for
abbrev pub nodes_of : Command → ℕ
nodes_of (Solve method workers error budget nodes certificate format cells) = nodes
nodes_of (Drill method workers error budget nodes seed vars size degree top cells) = nodes
nodes_of _ = 1

-- these words ask for more than one node
pub record AskForNodes (words : List (List ℕ)) : Type 0 where
  pub command : Command
  pub asked : answer_to words ≡ Ok command
  pub many : 1 < nodes_of command

-- the code of an envelope, if there is one
abbrev pub code_in : Option (ℕ × Sent) → Option (List ℕ)
code_in envelope = option_map code_of envelope

-- the answer that reports a difference, given the names of the variables
abbrev pub difference_answer : List (List ℕ) → Difference → Answer
difference_answer names (Message from to at sent taken) = answers.LinkDiffers from to at (code_in sent) (code_in taken) names
difference_answer names (Bytes round from_node to_node place sent taken) = answers.LinkBytes round from_node to_node place sent taken

-- what reporting a fault of agents in nodes gives, given the names of their variables; that the
-- links failed is reported without any memory
abbrev pub TellsNodeFault : List (List ℕ) → NodeFault → Result Answer NoMemory → Type 0
TellsNodeFault names Failed result = result ≡ Ok answers.Link
TellsNodeFault names (Differs d) (Ok answer) = answer ≡ difference_answer names d
TellsNodeFault names no_memory (Ok answer) = ⊥
TellsNodeFault names fault (Err refused) = Unit {0}

-- the link of a difference, if the fault reports one, is between agents with numbers below `count`
abbrev pub IsFaultNamed : ℕ → NodeFault → Type 0
IsFaultNamed count (Differs (Message from to at sent taken)) = (from < count) × (to < count)
IsFaultNamed count fault = Unit {0}

-- this answer reports a difference that the agents of a task may reach, in some run in this many
-- nodes, on a file that declares this
pub record TellsDifference (task : FileTask) (nodes : ℕ) (d : Declared) (answer : Answer) : Type 0 where
  pub file : TextFile
  pub whole : IsProblem file.problem
  pub declared : declared_by file ≡ d
  pub difference : Difference
  pub differed : HaveDiffered (problem_solved file) (IsPhaseOf task (problem_solved file)) nodes difference
  pub told : answer ≡ difference_answer file.names difference

-- an answer about the links between the nodes in which a task is done: that they failed, or a
-- difference that agents may reach
abbrev pub IsOfLinks : FileTask → ℕ → Declared → Answer → Type 0
IsOfLinks task nodes d answer = (answer ≡ answers.Link) ⊎ TellsDifference task nodes d answer

-- what an input gives agents to do: the task and problem of an accepted text; or, for a drill, with
-- nothing read, the task and the problem that is made
abbrev pub TellsProblem : Option Task → Option Drilled → Input → FileTask → DeclaredInput → Type 0
TellsProblem (Some (File format task)) drill (Whole bytes) done told = (done ≡ task) × (input_read format bytes ≡ Ok told)
TellsProblem None (Some drill) Unread done told = (done ≡ drill.task) × (told ≡ told_of (made_for drill) None)
TellsProblem task drill input done told = ⊥

-- to words that ask for more than one node, an answer about the links between the nodes; the words
-- and the text are accepted
pub record IsLinkAnswer (words : List (List ℕ)) (input : Input) (answer : Answer) : Type 0 where
  pub asks : AskForNodes words
  pub task : FileTask
  pub told : DeclaredInput
  pub read : TellsProblem (task_of asks.command) (drill_of asks.command) input task told
  pub links : IsOfLinks task (nodes_of asks.command) told.declared answer

-- an answer to a task, by agents in this many nodes, on a text that declares this: one that belongs
-- to it, or one about the links between the nodes
abbrev pub IsAnswerIn : FileTask → ℕ → Declared → (Answer → Type 0) → Answer → Type 0
IsAnswerIn task nodes d belongs answer = belongs answer ⊎ ((1 < nodes) × IsOfLinks task nodes d answer)

-- an answer to a task, by agents in this many nodes, on an input that is read as this
abbrev pub IsAnswerRead : FileTask → ℕ → Result DeclaredInput Answer → (Answer → Type 0) → Answer → Type 0
IsAnswerRead task nodes (Ok told) belongs answer = IsAnswerIn task nodes told.declared belongs answer
IsAnswerRead task nodes (Err refusal) belongs answer = belongs answer

-- an answer to a task on a text, by agents in this many nodes
abbrev pub IsTaskAnswerIn : ℕ → Task → List ℕ → Answer → Type 0
IsTaskAnswerIn nodes (File format task) bytes answer = IsAnswerRead task nodes (input_read format bytes) (IsTextAnswer task (input_read format bytes)) answer
IsTaskAnswerIn nodes task bytes answer = IsTaskAnswer task bytes answer

-- an answer to a command that reads nothing, by agents in this many nodes
abbrev pub IsUnreadAnswerIn : ℕ → Option Drilled → Answer → Type 0
IsUnreadAnswerIn nodes (Some drill) answer = IsAnswerIn drill.task nodes (declared_by (made_for drill)) (IsDrillAnswer drill) answer
IsUnreadAnswerIn nodes None answer = IsUnreadAnswer None answer

-- what an answer says about links. `many` is the statement that there is more than one node, and
-- `untrusted` that the dialer is not honest and some wire is the end of a new stream. If the answer
-- is that links failed, `many` holds and the dialer's count of faults rose; otherwise that count is
-- unchanged. If the answer is that links differ, `many` and `untrusted` hold
pub record TellsAnswer (many untrusted : Type 0) (old new : ℕ) (answer : Answer) : Type 0 where
  pub failed : status_of answer ≡ LinkFault → many × (old ≤ new) × Rose old new
  pub differs : status_of answer ≡ LinkDiffers → many × untrusted
  pub quiet : status_of answer ≢ LinkFault → new ≡ old

-- the same for a call that may run out of memory, which leaves the count as it was
abbrev pub TellsLinks : Type 0 → Type 0 → ℕ → ℕ → Result Answer NoMemory → Type 0
TellsLinks many untrusted old new (Ok answer) = TellsAnswer many untrusted old new answer
TellsLinks many untrusted old new (Err refused) = new ≡ old
