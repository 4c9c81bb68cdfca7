use Rattle.std.proofs.Common.{ap, subst}
use Rattle.dcop_base.specs.Whole.{IsProblem}
use Rattle.problem_text.specs.File.{TextFile}
use Rattle.edit_session.proofs.edit.file_is_whole.Goals as goal

pub returns : goal.returns
returns c = subst IsProblem (ap (λ (f : TextFile). f.problem) c.file.view_is) c.problem_is_whole.ensures
