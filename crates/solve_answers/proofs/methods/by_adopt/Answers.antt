use Rattle.std.proofs.Common.{None, inl, length, sym, subst}
use Rattle.dcop_base.specs.Whole.{IsProblem}
use Rattle.problem_text.specs.File.{TextFile, IsFile}
use Rattle.answer_io.specs.InputTold.{told_of}
use Rattle.solve_answers.specs.declared.task.FileTask.TheVariants as tasks
use Rattle.solve_answers.specs.Nodes.{IsFaultNamed, TellsNodeFault}
use Rattle.solve_answers.proofs.LinkAnswerLaws.{fault_belongs, fault_named, fault_tells}
use Rattle.solve_answers.proofs.LinklessLaws.{file-linkless, linkless-tells}
use Rattle.solve_answers.proofs.methods.by_adopt.Goals as goal

pub fault_told-requires : goal.fault_told-requires
fault_told-requires g c =
    let file : IsFile c.args.file = rw (← c.file.view_is) c.file.invariant in
    record { named = subst (λ (f : TextFile). IsFaultNamed (length f.names) c.in-Err.fault) (sym c.file.view_is) (fault_named c.args.file (tasks.Adopt c.args.asked.error c.args.asked.budget c.args.asked.certified) _ _ _ _ c.in-Err.fault file.named c.in-Err.ensures.links) }

pub returns-in-Ok-clause-belongs : goal.returns-in-Ok-clause-belongs
returns-in-Ok-clause-belongs g c = inl (c.adopt_answer.ensures.belongs)

pub returns-in-Ok-clause-links : goal.returns-in-Ok-clause-links
returns-in-Ok-clause-links g c =
    linkless-tells _ _ _ _ c.in-Ok.ensures.links c.adopt_answer.result (file-linkless (tasks.Adopt c.args.asked.error c.args.asked.budget c.args.asked.certified) (told_of c.args.file None) c.adopt_answer.result (c.adopt_answer.ensures.belongs))

pub returns-in-Err-clause-belongs : goal.returns-in-Err-clause-belongs
returns-in-Err-clause-belongs g c =
    let whole : IsProblem c.args.file.problem = subst (λ (f : TextFile). IsProblem f.problem) c.file.view_is c.problem_is_whole.ensures in
    fault_belongs c.args.file (tasks.Adopt c.args.asked.error c.args.asked.budget c.args.asked.certified) _ _ _ _ _ c.in-Err.fault c.fault_told.result whole c.in-Err.ensures.links
    (subst (λ (f : TextFile). TellsNodeFault f.names c.in-Err.fault c.fault_told.result) c.file.view_is c.fault_told.ensures.told)

pub returns-in-Err-clause-links : goal.returns-in-Err-clause-links
returns-in-Err-clause-links g c = fault_tells c.args.file (tasks.Adopt c.args.asked.error c.args.asked.budget c.args.asked.certified) _ _ _ _ c.in-Err.fault c.fault_told.result c.in-Err.ensures.links
    (subst (λ (f : TextFile). TellsNodeFault f.names c.in-Err.fault c.fault_told.result) c.file.view_is c.fault_told.ensures.told)
