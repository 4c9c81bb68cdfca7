use Rattle.std.proofs.Common.{refl, ap, ap₂, ◌∙◌}
use Rattle.dcop_base.specs.Problem.{cost}
use Rattle.problem_text.specs.File.{TextFile, IsFile}
use Rattle.solve_methods.proofs.CertifiedLaws.{chosen_form, chosen_told}
use Rattle.solve_methods.proofs.dpop.dpop_report.Goals as goal

pub returns-clause-form : goal.returns-clause-form
returns-clause-form c =
    chosen_form c.depth_first_trees_are_linked.ensures c.args.file.now c.requires.whole _ c.args.chosen c.requires refl refl
    refl refl (ap (λ (f : TextFile). f.goal) c.file.view_is) refl refl
    (c.cost_of-cost.ensures.cost ∙ ap₂ cost (ap (λ (f : TextFile). f.problem) c.file.view_is) c.as_slice.ensures) refl refl

pub returns-clause-told : goal.returns-clause-told
returns-clause-told c =
    let whole : IsFile c.args.file.now = rw (← c.file.view_is) c.file.invariant in
    chosen_told c.depth_first_trees_are_linked.ensures c.args.file.now c.requires.whole _ c.args.chosen c.requires refl refl whole
