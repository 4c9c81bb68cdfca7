use Rattle.std.proofs.Common.{ap, ap₂, ◌∙◌, Option}
use Rattle.dcop_base.specs.Problem.{Dcop}
use Rattle.problem_text.specs.File.{TextFile}
use Rattle.edit_session.specs.Session.{or_own}
use Rattle.edit_session.proofs.CellLaws.{or_own_is}
use Rattle.edit_session.proofs.session.solved_of.Goals as goal

pub returns : goal.returns
returns c =
    c.or_own.ensures
    ∙ ap₂ (λ (p : Dcop) (o : Option Dcop). or_own p o) (ap (λ (f : TextFile). f.problem) c.file.view_is) c.requires
    ∙ or_own_is c.args.file.now.goal c.args.file.now.problem
