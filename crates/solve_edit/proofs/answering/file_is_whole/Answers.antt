use Rattle.std.proofs.Common.{subst}
use Rattle.problem_text.specs.File.{IsFile}
use Rattle.solve_edit.proofs.answering.file_is_whole.Goals as goal

pub returns : goal.returns
returns c = subst IsFile c.file.view_is c.file.invariant
