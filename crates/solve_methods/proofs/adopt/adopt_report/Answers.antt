use Rattle.std.proofs.Common.{◌≤◌, refl, sym, ap, subst, ◌∙◌}
use Rattle.dcop_base.specs.Problem.{cost}
use Rattle.dcop_optimum.specs.Goal.{top_of}
use Rattle.problem_text.specs.File.{TextFile, IsFile}
use Rattle.minimised_problem.specs.LogEnds.{lower_for, upper_for}
use Rattle.solve_methods.proofs.AdoptRightLaws.{upper-top, lower-top, reached-right, reached-form, reached-told}
use Rattle.solve_methods.proofs.adopt.adopt_report.Goals as goal

pub lower_for-requires : goal.lower_for-requires
lower_for-requires c =
    subst (λ (file : TextFile). c.args.reached.upper ≤ top_of file.problem) (sym c.file.view_is)
    (upper-top c.args.file.now.goal c.args.file.now.problem c.requires.whole c.args.asked.error c.args.asked.budget c.args.asked.certified c.args.reached c.requires.reached)

pub upper_for-requires : goal.upper_for-requires
upper_for-requires c =
    subst (λ (file : TextFile). c.args.reached.lower ≤ top_of file.problem) (sym c.file.view_is)
    (lower-top c.args.file.now.goal c.args.file.now.problem c.requires.whole c.args.asked.error c.args.asked.budget c.args.asked.certified c.args.reached c.requires.reached)

pub returns-clause-form : goal.returns-clause-form
returns-clause-form c =
    reached-form c.args.file.now c.args.asked.error c.args.asked.budget c.args.asked.certified c.args.reached _ c.requires.reached (record {
      status = refl;
      method = refl;
      goal = ap (λ (file : TextFile). file.goal) c.file.view_is;
      error_told = refl;
      deliveries = refl;
      values = refl;
      sum = c.cost_of.ensures.cost ∙ ap (cost c.file.inside.problem) c.as_slice.ensures ∙ ap (λ (file : TextFile). cost file.problem c.args.reached.values) c.file.view_is;
      lower = c.lower_for.ensures ∙ ap (λ (file : TextFile). lower_for file.goal file.problem c.args.reached.lower c.args.reached.upper) c.file.view_is;
      upper = c.upper_for.ensures ∙ ap (λ (file : TextFile). upper_for file.goal file.problem c.args.reached.lower c.args.reached.upper) c.file.view_is;
      certificate = c.certificate_of_log.ensures;
    }) c.requires.whole
    c.token_runs.ensures c.adopt_bounds_enclose.ensures c.adopt_ends.ensures

pub returns-clause-right : goal.returns-clause-right
returns-clause-right c =
    reached-right c.args.file.now c.args.asked.error c.args.asked.budget c.args.asked.certified c.args.reached _ c.requires.reached (record {
      status = refl;
      method = refl;
      goal = ap (λ (file : TextFile). file.goal) c.file.view_is;
      error_told = refl;
      deliveries = refl;
      values = refl;
      sum = c.cost_of.ensures.cost ∙ ap (cost c.file.inside.problem) c.as_slice.ensures ∙ ap (λ (file : TextFile). cost file.problem c.args.reached.values) c.file.view_is;
      lower = c.lower_for.ensures ∙ ap (λ (file : TextFile). lower_for file.goal file.problem c.args.reached.lower c.args.reached.upper) c.file.view_is;
      upper = c.upper_for.ensures ∙ ap (λ (file : TextFile). upper_for file.goal file.problem c.args.reached.lower c.args.reached.upper) c.file.view_is;
      certificate = c.certificate_of_log.ensures;
    }) c.requires.whole

pub returns-clause-told : goal.returns-clause-told
returns-clause-told c =
    let whole : IsFile c.args.file.now = rw (← c.file.view_is) c.file.invariant in
    reached-told c.args.file.now c.args.asked.error c.args.asked.budget c.args.asked.certified c.args.reached _ c.requires.reached (record {
      status = refl;
      method = refl;
      goal = ap (λ (file : TextFile). file.goal) c.file.view_is;
      error_told = refl;
      deliveries = refl;
      values = refl;
      sum = c.cost_of.ensures.cost ∙ ap (cost c.file.inside.problem) c.as_slice.ensures ∙ ap (λ (file : TextFile). cost file.problem c.args.reached.values) c.file.view_is;
      lower = c.lower_for.ensures ∙ ap (λ (file : TextFile). lower_for file.goal file.problem c.args.reached.lower c.args.reached.upper) c.file.view_is;
      upper = c.upper_for.ensures ∙ ap (λ (file : TextFile). upper_for file.goal file.problem c.args.reached.lower c.args.reached.upper) c.file.view_is;
      certificate = c.certificate_of_log.ensures;
    }) c.requires.whole whole
