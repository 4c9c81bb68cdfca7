use Rattle.std.proofs.Common.{subst}
use Rattle.dcop_base.specs.Whole.{IsProblem}
use Rattle.problem_text.specs.File.{TextFile}
use Rattle.minimised_problem.specs.Goal.{problem_solved}
use Rattle.minimised_problem.proofs.SolvedLaws.{solved_problem}
use Rattle.solve_cut.specs.Cut.{IsBestCut}
use Rattle.solve_cut.proofs.CutLaws.{one-cut, best-cut, cut-right, report-answers, refusal-answers}
use Rattle.solve_cut.proofs.answering.answer_of.Goals as goal

pub cut_report-requires : goal.cut_report-requires
cut_report-requires c =
    let whole : IsProblem c.args.file.problem = subst (λ (f : TextFile). IsProblem f.problem) c.file.view_is c.problem_is_whole.ensures in
    best-cut c.args.file c.args.limit c.args.keeps c.in-Ok.end c.cut_sets_are_one.ensures c.cut_answers_are_optimal.ensures c.kept_tables_certify.ensures c.depth_first_trees_are_linked.ensures whole c.requires.least (rw c.in-Ok.is at c.requires.cut)

pub returns-in-Ok-clause-belongs : goal.returns-in-Ok-clause-belongs
returns-in-Ok-clause-belongs c =
    let whole : IsProblem c.args.file.problem = subst (λ (f : TextFile). IsProblem f.problem) c.file.view_is c.problem_is_whole.ensures in
    report-answers c.args.file c.args.limit c.args.keeps c.in-Ok.end c.cut_report.result whole (rw c.in-Ok.is at c.requires.cut) c.cut_report.ensures.form

pub returns-in-Ok-clause-right : goal.returns-in-Ok-clause-right
returns-in-Ok-clause-right c =
    let whole : IsProblem c.args.file.problem = subst (λ (f : TextFile). IsProblem f.problem) c.file.view_is c.problem_is_whole.ensures in
    let best : IsBestCut c.args.file c.args.keeps c.in-Ok.end = best-cut c.args.file c.args.limit c.args.keeps c.in-Ok.end c.cut_sets_are_one.ensures c.cut_answers_are_optimal.ensures c.kept_tables_certify.ensures c.depth_first_trees_are_linked.ensures whole c.requires.least (rw c.in-Ok.is at c.requires.cut) in
    cut-right c.args.file c.args.keeps c.in-Ok.end c.cut_report.result best c.cut_report.ensures.values c.cut_report.ensures.form

pub returns-in-Err-clause-belongs : goal.returns-in-Err-clause-belongs
returns-in-Err-clause-belongs c =
    let whole : IsProblem c.args.file.problem = subst (λ (f : TextFile). IsProblem f.problem) c.file.view_is c.problem_is_whole.ensures in
    let one = one-cut (problem_solved c.args.file) c.args.limit c.cut_sets_are_one.ensures c.depth_first_trees_are_linked.ensures (solved_problem c.args.file.goal c.args.file.problem whole) c.requires.least in
    refusal-answers c.args.file c.args.limit c.args.keeps c.in-Err.fault c.refusal_answer.result one whole (rw c.in-Err.is at c.requires.cut) c.refusal_answer.ensures.belongs
