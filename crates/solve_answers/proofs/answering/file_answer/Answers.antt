use Rattle.std.proofs.Common.{refl}
use Rattle.answer_io.specs.InputTold.{told_of}
use Rattle.solve_answers.specs.declared.task.FileTask.TheVariants as tasks
use Rattle.solve_answers.proofs.LinklessLaws.{file-tells}
use Rattle.solve_answers.proofs.answering.file_answer.Goals as goal

pub returns-in-Cut-clause-links : goal.returns-in-Cut-clause-links
returns-in-Cut-clause-links g c = file-tells _ _ _ _ refl (tasks.Cut c.in-Cut.limit c.in-Cut.certified) (told_of c.args.read.file c.args.read.bar) c.by_cut.result c.by_cut.ensures.belongs
