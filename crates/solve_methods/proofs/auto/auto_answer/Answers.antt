use Rattle.std.proofs.Common.{subst}
use Rattle.dcop_base.specs.Whole.{IsProblem}
use Rattle.problem_text.specs.File.{TextFile}
use Rattle.solve_methods.specs.Dpop.{AreBestChosen}
use Rattle.solve_methods.proofs.AutoLaws.{chosen_answers, reached_answers}
use Rattle.solve_methods.proofs.ChosenLaws.{best_chosen, report_right}
use Rattle.solve_methods.proofs.auto.auto_answer.Goals as goal

pub dpop_report-requires : goal.dpop_report-requires
dpop_report-requires c =
    let whole : IsProblem c.args.file.problem = subst (λ (f : TextFile). IsProblem f.problem) c.file.view_is c.problem_is_whole.ensures in
    let gives = rw c.in-ByDpop.is at c.requires in
    best_chosen c.args.file.goal c.args.file.problem whole c.in-ByDpop.chosen gives.0 gives.2

pub returns-in-ByDpop-clause-belongs : goal.returns-in-ByDpop-clause-belongs
returns-in-ByDpop-clause-belongs c =
    let whole : IsProblem c.args.file.problem = subst (λ (f : TextFile). IsProblem f.problem) c.file.view_is c.problem_is_whole.ensures in
    let gives = rw c.in-ByDpop.is at c.requires in
    let best : AreBestChosen c.args.file.goal c.args.file.problem c.in-ByDpop.chosen = best_chosen c.args.file.goal c.args.file.problem whole c.in-ByDpop.chosen gives.0 gives.2 in
    chosen_answers c.args.file c.args.asked.error c.args.asked.budget c.args.asked.certified c.dpop_report.result c.in-ByDpop.chosen gives.1 best c.dpop_report.ensures.form

pub returns-in-ByDpop-clause-right : goal.returns-in-ByDpop-clause-right
returns-in-ByDpop-clause-right c =
    let whole : IsProblem c.args.file.problem = subst (λ (f : TextFile). IsProblem f.problem) c.file.view_is c.problem_is_whole.ensures in
    let gives = rw c.in-ByDpop.is at c.requires in
    let best : AreBestChosen c.args.file.goal c.args.file.problem c.in-ByDpop.chosen = best_chosen c.args.file.goal c.args.file.problem whole c.in-ByDpop.chosen gives.0 gives.2 in
    report_right c.args.file _ c.dpop_report.result c.in-ByDpop.chosen best c.dpop_report.ensures.form c.dpop_report.ensures.values

pub returns-in-ByAdopt-clause-belongs : goal.returns-in-ByAdopt-clause-belongs
returns-in-ByAdopt-clause-belongs c =
    let whole : IsProblem c.args.file.problem = subst (λ (f : TextFile). IsProblem f.problem) c.file.view_is c.problem_is_whole.ensures in
    let gives = rw c.in-ByAdopt.is at c.requires in
    reached_answers c.args.file c.args.asked.error c.args.asked.budget c.args.asked.certified c.adopt_report.result whole gives.0 c.adopt_report.ensures.form
