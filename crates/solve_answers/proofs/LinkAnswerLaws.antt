-- What a call on agents in nodes says about links, and the answers that report it.
use Rattle.std.proofs.Common.{◌≡◌, ℕ, ◌<◌, inl, inr, List, length, None, Result, Ok, Err, IfOk, refl, sym, ap, subst, ◌∙◌}
use Rattle.std.proofs.lemmas.Result.{IfOk-weaker}
use Rattle.dcop_base.specs.Problem.{Dcop}
use Rattle.dcop_base.specs.Whole.{IsProblem}
use Rattle.dcop_base.specs.declared.memory.NoMemory.{NoMemory}
use Rattle.worker_laws.specs.OneNode.{home}
use Rattle.tcp_links.specs.declared.fault.Difference.{Difference}
use Rattle.tcp_links.specs.declared.fault.Difference.TheVariants.{Message, Bytes}
use Rattle.tcp_links.specs.declared.fault.NodeFault.{NodeFault}
use Rattle.tcp_links.specs.declared.fault.NodeFault.TheVariants.{Failed, Differs, NoMemory as no_memory}
use Rattle.problem_text.specs.Declarations.{Declared}
use Rattle.problem_text.specs.File.{TextFile}
use Rattle.problem_text.specs.Steps.{declared_by}
use Rattle.problem_text.specs.declared.file.Goal.{Goal}
use Rattle.problem_text.specs.declared.file.Goal.TheVariants.{Min, Max}
use Rattle.minimised_problem.specs.Goal.{solved, problem_solved}
use Rattle.solve_words.specs.declared.command.Command.{Command}
use Rattle.solve_words.specs.Command.{answer_to}
use Rattle.solve_report.specs.declared.answer.Answer.{Answer}
use Rattle.answer_io.specs.declared.status.Status.TheVariants.{LinkFault, LinkDiffers}
use Rattle.answer_io.specs.Statuses.{status_of}
use Rattle.answer_io.specs.InputTold.{told_of}
use Rattle.solve_methods.specs.Drill.{drilled}
use Rattle.solve_methods.specs.Goal.{TellsRight}
use Rattle.solve_answers.specs.Answering.{IsFileAnswer, IsDrillAnswer}
use Rattle.solve_answers.specs.Drilling.{made_for}
use Rattle.solve_answers.specs.declared.drilling.Drill.{Drill}
use Rattle.solve_answers.specs.Nodes.{nodes_of, difference_answer, AskForNodes, IsAnswerIn, IsFaultNamed, IsOfLinks, TellsAnswer, TellsNodeFault, TellsLinks}
use Rattle.solve_answers.specs.Phases.{IsPhaseOf}
use Rattle.solve_agents.specs.Wiring.{IsNodesFaultOf}
use Rattle.solve_answers.specs.declared.task.FileTask.{FileTask}
use Rattle.solve_answers.proofs.AnswerLaws.{asks_nodes, drilled-status}
use Rattle.solve_answers.proofs.GivenLaws.{difference-status}
use Rattle.solve_answers.proofs.LinkNameLaws.{difference_named}

-- the problem solved has as many variables as the file
solved-sizes : (goal : Goal) (p : Dcop) → length (solved goal p).sizes ≡ length p.sizes
solved-sizes Min p = refl
solved-sizes Max p = refl

-- the answer to a fault of the agents of the problem solved
module _ (file : TextFile) (task : FileTask) (nodes : ℕ) (untrusted : Type 0) (old new : ℕ) where
  -- the agents at the ends of a link have names
  pub fault_named : (e : NodeFault) → length file.names ≡ length file.problem.sizes → IsNodesFaultOf (problem_solved file) (IsPhaseOf task (problem_solved file)) nodes untrusted old new e → IsFaultNamed (length file.names) e
  fault_named Failed named fails = tt
  fault_named (Differs d) named fails =
      let count : length (problem_solved file).sizes ≡ length file.names = solved-sizes file.goal file.problem ∙ sym named in
      let h = fails.3 in
      subst (λ (k : ℕ). IsFaultNamed k (Differs d)) count
      (difference_named (length (problem_solved file).sizes) nodes (home nodes (length (problem_solved file).sizes)) h.budget h.links h.started h.left h.ends h.last d h.between h.right)
  fault_named no_memory named fails = tt

  -- it is an answer about the links
  pub fault_belongs : (P : Answer → Type 0) (e : NodeFault) (r : Result Answer NoMemory) → IsProblem file.problem → IsNodesFaultOf (problem_solved file) (IsPhaseOf task (problem_solved file)) nodes untrusted old new e → TellsNodeFault file.names e r
      → IfOk r (IsAnswerIn task nodes (declared_by file) P)
  fault_belongs P Failed r whole fails told = subst (λ (x : Result Answer NoMemory). IfOk x (IsAnswerIn task nodes (declared_by file) P)) (sym told) (inr (fails.0, inl refl))
  fault_belongs P (Differs d) (Ok answer) whole fails told = inr (
    fails.0,
    inr (record {
      file = file;
      whole = whole;
      declared = refl;
      difference = d;
      differed = fails.3;
      told = told;
    }),
  )
  fault_belongs P (Differs d) (Err refused) whole fails told = tt
  fault_belongs P no_memory (Ok answer) whole fails told = absurd told
  fault_belongs P no_memory (Err refused) whole fails told = tt

  -- it says of them what the fault says
  pub fault_tells : (e : NodeFault) (r : Result Answer NoMemory) → IsNodesFaultOf (problem_solved file) (IsPhaseOf task (problem_solved file)) nodes untrusted old new e → TellsNodeFault file.names e r → TellsLinks (1 < nodes) untrusted old new r
  fault_tells Failed r fails told = subst (λ (x : Result Answer NoMemory). TellsLinks (1 < nodes) untrusted old new x) (sym told) (record {
    failed = λ e. fails;
    differs = λ e. absurd (cc e);
    quiet = λ other. absurd (other refl);
  })
  fault_tells (Differs d) (Ok answer) fails told =
      let status : status_of answer ≡ LinkDiffers = ap status_of told ∙ difference-status file.names d in
      record {
        failed = λ e. let f : LinkDiffers ≡ LinkFault = sym status ∙ e in absurd (cc f);
        differs = λ e. (fails.0, fails.2);
        quiet = λ other. fails.1;
      }
  fault_tells (Differs d) (Err refused) fails told = fails.1
  fault_tells no_memory (Ok answer) fails told = absurd told
  fault_tells no_memory (Err refused) fails told = fails

-- an answer that belongs to a task is one by agents in any number of nodes
pub own_answer : (task : FileTask) (nodes : ℕ) (d : Declared) (P : Answer → Type 0) (r : Result Answer NoMemory) → IfOk r P → IfOk r (IsAnswerIn task nodes d P)
own_answer task nodes d P r is = IfOk-weaker r P (IsAnswerIn task nodes d P) (λ answer own. inl own) is

-- a drill passes an answer about links on as it is
drilled-difference : (seed : ℕ) (names : List (List ℕ)) (d : Difference) → drilled seed (difference_answer names d) ≡ difference_answer names d
drilled-difference seed names (Message from to at sent taken) = refl
drilled-difference seed names (Bytes round from_node to_node place sent taken) = refl

drilled-links : (task : FileTask) (seed nodes : ℕ) (d : Declared) (answer : Answer) → IsOfLinks task nodes d answer → drilled seed answer ≡ answer
drilled-links task seed nodes d answer (inl failed) = ap (drilled seed) failed ∙ sym failed
drilled-links task seed nodes d answer (inr differs) = ap (drilled seed) differs.told ∙ drilled-difference seed differs.file.names differs.difference ∙ sym differs.told

-- the answer to a drill, by that of the task on the file that is made
pub drill_answers : (drill : Drill) (nodes : ℕ) (file : TextFile) (answer : Answer) → file ≡ made_for drill → TellsRight answer → IsAnswerIn drill.task nodes (declared_by file) (IsFileAnswer drill.task (told_of file None)) answer
    → IsAnswerIn drill.task nodes (declared_by (made_for drill)) (IsDrillAnswer drill) (drilled drill.seed answer)
drill_answers drill nodes file answer made right is = on (subst (λ (f : TextFile). IsAnswerIn drill.task nodes (declared_by f) (IsFileAnswer drill.task (told_of f None)) answer) made is) where
  on : IsAnswerIn drill.task nodes (declared_by (made_for drill)) (IsFileAnswer drill.task (told_of (made_for drill) None)) answer → IsAnswerIn drill.task nodes (declared_by (made_for drill)) (IsDrillAnswer drill) (drilled drill.seed answer)
  on (inl own) = inl (record {
    solved = answer;
    is = own;
    right = right;
    told = refl;
  })
  on (inr links) =
      inr (links.0, subst (λ (a : Answer). IsOfLinks drill.task nodes (declared_by (made_for drill)) a) (sym (drilled-links drill.task drill.seed nodes (declared_by (made_for drill)) answer links.1)) links.1)

pub drill_tells : (seed : ℕ) (many untrusted : Type 0) (old new : ℕ) (answer : Answer) → TellsAnswer many untrusted old new answer → TellsAnswer many untrusted old new (drilled seed answer)
drill_tells seed many untrusted old new answer tells =
    let same = drilled-status seed answer in
    record {
      failed = λ e. tells.failed (sym same ∙ e);
      differs = λ e. tells.differs (sym same ∙ e);
      quiet = λ other. tells.quiet (λ e. other (same ∙ e));
    }

-- what an answer says about links, if words ask for this many nodes
pub asks_tells : (words : List (List ℕ)) (command : Command) (nodes : ℕ) (untrusted : Type 0) (old new : ℕ) (r : Result Answer NoMemory) → answer_to words ≡ Ok command → (1 < nodes → nodes ≡ nodes_of command)
    → TellsLinks (1 < nodes) untrusted old new r → TellsLinks (AskForNodes words) untrusted old new r
asks_tells words command nodes untrusted old new (Ok answer) asked so_many tells = record {
  failed = λ e. let t = tells.failed e in (asks_nodes words command nodes asked so_many t.0, t.1, t.2);
  differs = λ e. let t = tells.differs e in (asks_nodes words command nodes asked so_many t.0, t.1);
  quiet = tells.quiet;
}
asks_tells words command nodes untrusted old new (Err refused) asked so_many tells = tells
