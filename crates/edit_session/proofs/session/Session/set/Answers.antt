use Rattle.std.proofs.Common.{ap, subst}
use Rattle.problem_text.specs.File.{TextFile}
use Rattle.edit_session.specs.Faults.{IsReplacement}
use Rattle.edit_session.specs.Session.{OpenSession}
use Rattle.edit_session.proofs.session.Session.set.Goals as goal

pub replace-requires : goal.replace-requires
replace-requires c =
    subst (λ (f : TextFile). IsReplacement f.problem.tables c.args.table c.in_ok-cells.cells.items) (ap (λ (o : OpenSession). o.state.file) c.self.view_is) c.in_ok-cells.ensures.fits
