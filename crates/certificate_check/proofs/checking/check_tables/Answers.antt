use Rattle.std.proofs.Common.{ℕ, List, subst, sym}
use Rattle.std.proofs.lemmas.Result.{IfOk-weaker}
use Rattle.dcop_base.specs.Whole.{IsProblem}
use Rattle.problem_text.specs.File.{TextFile}
use Rattle.certificate_text.specs.Fits.{FitsTables}
use Rattle.certificate_check.specs.Verdicts.{IsTablesVerdict, IsTablesExact}
use Rattle.minimised_problem.specs.Verdict.{ShowsBest}
use Rattle.certificate_check.proofs.ExactLaws.{exact_of, best_of}
use Rattle.minimised_problem.proofs.SolvedLaws.{solved_sizes}
use Rattle.certificate_check.proofs.checking.check_tables.Goals as goal

pub returns-clause-exact : goal.returns-clause-exact
returns-clause-exact c =
    let f : TextFile = c.args.file.now in
    let fits = subst (λ (ss : List ℕ). FitsTables ss c.args.utils.now) (sym (solved_sizes f.goal f.problem)) c.requires.fits in
    IfOk-weaker c.check_goal.result (IsTablesVerdict f c.args.report.now c.args.utils.now) (IsTablesExact f c.args.report.now c.args.utils.now)
    (exact_of f c.args.report.now c.args.utils.now fits) c.check_goal.ensures

pub returns-clause-best : goal.returns-clause-best
returns-clause-best c =
    let f : TextFile = c.args.file.now in
    let fits = subst (λ (ss : List ℕ). FitsTables ss c.args.utils.now) (sym (solved_sizes f.goal f.problem)) c.requires.fits in
    let problem = subst (λ (g : TextFile). IsProblem g.problem) c.file.view_is c.problem_is_whole.ensures in
    IfOk-weaker c.check_goal.result (IsTablesVerdict f c.args.report.now c.args.utils.now) (ShowsBest f)
    (best_of f c.args.report.now c.args.utils.now fits problem c.requires.values) c.check_goal.ensures
