use Rattle.std.proofs.Common.{ℕ, List, subst, sym}
use Rattle.std.proofs.lemmas.Result.{IfOk-weaker}
use Rattle.dcop_base.specs.Whole.{IsProblem}
use Rattle.problem_text.specs.File.{TextFile}
use Rattle.certificate_text.specs.Fits.{FitsCut}
use Rattle.minimised_problem.specs.Verdict.{ShowsBest}
use Rattle.minimised_problem.proofs.SolvedLaws.{solved_sizes}
use Rattle.certificate_check.specs.Verdicts.{IsCutVerdict, IsCutExact}
use Rattle.certificate_check.proofs.CutExactLaws.{cut_exact_of, cut_best_of}
use Rattle.certificate_check.proofs.TurnLaws.{some_turn}
use Rattle.certificate_check.proofs.cutting.check_cut.Goals as goal

pub returns-clause-exact : goal.returns-clause-exact
returns-clause-exact c =
    let f : TextFile = c.args.file.now in
    let fits = subst (λ (ss : List ℕ). FitsCut ss c.args.cut.now c.args.turns.now) (sym (solved_sizes f.goal f.problem)) c.requires.fits in
    let problem = subst (λ (g : TextFile). IsProblem g.problem) c.file.view_is c.problem_is_whole.ensures in
    let some = some_turn f.problem c.args.cut.now c.args.turns.now problem c.requires.fits in
    IfOk-weaker c.check_cut_goal.result (IsCutVerdict f c.args.report.now c.args.cut.now c.args.turns.now) (IsCutExact f c.args.report.now c.args.cut.now c.args.turns.now)
    (cut_exact_of f c.args.report.now c.args.cut.now c.args.turns.now fits c.requires.deliveries some) c.check_cut_goal.ensures

pub returns-clause-best : goal.returns-clause-best
returns-clause-best c =
    let f : TextFile = c.args.file.now in
    let fits = subst (λ (ss : List ℕ). FitsCut ss c.args.cut.now c.args.turns.now) (sym (solved_sizes f.goal f.problem)) c.requires.fits in
    let problem = subst (λ (g : TextFile). IsProblem g.problem) c.file.view_is c.problem_is_whole.ensures in
    let some = some_turn f.problem c.args.cut.now c.args.turns.now problem c.requires.fits in
    IfOk-weaker c.check_cut_goal.result (IsCutVerdict f c.args.report.now c.args.cut.now c.args.turns.now) (ShowsBest f)
    (cut_best_of f c.args.report.now c.args.cut.now c.args.turns.now fits c.requires.deliveries some problem c.requires.values) c.check_cut_goal.ensures
