use Rattle.std.proofs.Common.{◌≡◌, Some, sym, subst}
use Rattle.dcop_base.specs.Whole.{IsProblem}
use Rattle.problem_text.specs.File.{TextFile}
use Rattle.minimised_problem.specs.Goal.{solved}
use Rattle.solve_methods.specs.Dpop.{wide_in, AreBestChosen}
use Rattle.solve_methods.proofs.ChosenLaws.{best_chosen, report_right, wide_told}
use Rattle.solve_methods.proofs.dpop.dpop_answer.Goals as goal

pub dpop_report-requires : goal.dpop_report-requires
dpop_report-requires c =
    let whole : IsProblem c.args.file.problem = subst (λ (f : TextFile). IsProblem f.problem) c.file.view_is c.problem_is_whole.ensures in
    let gives = rw c.in-Values.is at c.requires.1 in
    best_chosen c.args.file.goal c.args.file.problem whole c.in-Values.chosen gives.0 gives.2

pub returns-in-Values-clause-right : goal.returns-in-Values-clause-right
returns-in-Values-clause-right c =
    let whole : IsProblem c.args.file.problem = subst (λ (f : TextFile). IsProblem f.problem) c.file.view_is c.problem_is_whole.ensures in
    let gives = rw c.in-Values.is at c.requires.1 in
    let best : AreBestChosen c.args.file.goal c.args.file.problem c.in-Values.chosen = best_chosen c.args.file.goal c.args.file.problem whole c.in-Values.chosen gives.0 gives.2 in
    report_right c.args.file _ c.dpop_report.result c.in-Values.chosen best c.dpop_report.ensures.form c.dpop_report.ensures.values

pub returns-in-TooWide-clause-told : goal.returns-in-TooWide-clause-told
returns-in-TooWide-clause-told c =
    let wide = rw c.in-TooWide.is at c.requires.1 in
    rw c.too_wide.ensures (wide_told c.file.inside.goal c.file.inside.problem c.file.inside.names c.file.invariant.named c.in-TooWide.wide
    (subst (λ (f : TextFile). wide_in (solved f.goal f.problem) ≡ Some c.in-TooWide.wide) (sym c.file.view_is) wide))
