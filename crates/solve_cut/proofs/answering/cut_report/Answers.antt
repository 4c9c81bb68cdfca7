use Rattle.std.proofs.Common.{refl, ap, ap₂, ◌∙◌}
use Rattle.dcop_base.specs.Problem.{cost}
use Rattle.problem_text.specs.File.{TextFile, IsFile}
use Rattle.solve_cut.proofs.CertifiedLaws.{told}
use Rattle.solve_cut.proofs.CutLaws.{cut-form}
use Rattle.solve_cut.proofs.answering.cut_report.Goals as goal

pub returns-clause-form : goal.returns-clause-form
returns-clause-form c =
    cut-form c.args.file.now c.args.keeps c.args.end _ c.requires refl refl refl (ap (λ (f : TextFile). f.goal) c.file.view_is) refl refl
    (c.cost_of-cost.ensures.cost ∙ ap₂ cost (ap (λ (f : TextFile). f.problem) c.file.view_is) c.as_slice.ensures) refl refl c.certificate_if.ensures

pub returns-clause-told : goal.returns-clause-told
returns-clause-told c =
    let whole : IsFile c.args.file.now = rw (← c.file.view_is) c.file.invariant in
    told c.args.keeps c.args.file.now c.args.end _ whole c.requires.turns c.requires.assignment c.certificate_if.ensures
