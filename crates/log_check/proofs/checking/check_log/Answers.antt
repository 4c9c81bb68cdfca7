use Rattle.std.proofs.Common.{◌<◌, ℕ, sym, subst}
use Rattle.std.proofs.lemmas.List.Elements.{length_all_zip}
use Rattle.dcop_base.specs.Whole.{IsProblem}
use Rattle.problem_text.specs.File.{TextFile}
use Rattle.certificate_text.specs.declared.verdict.Verdict.{Verdict}
use Rattle.minimised_problem.specs.Verdict.{ShowsBest}
use Rattle.minimised_problem.specs.LogVerdicts.{IsLogExact}
use Rattle.log_check.specs.Shows.{ShowsReport}
use Rattle.log_check.proofs.CheckLaws.{exact_by, shows_by, best_by}
use Rattle.log_check.proofs.checking.check_log.Goals as goal

pub returns-clause-exact : goal.returns-clause-exact
returns-clause-exact c =
    let f : TextFile = c.args.file.now in
    let whole = subst (λ (g : TextFile). IsProblem g.problem) c.file.view_is c.problem_is_whole.ensures in
    let size = length_all_zip (λ (value size : ℕ). value < size) c.args.report.now.values f.problem.sizes c.requires.fits.values in
    subst (λ (v : Verdict). IsLogExact f c.args.report.now c.args.log.now v) (sym c.verdict_of.ensures)
    (exact_by f c.args.report.now c.args.log.now c.logs_show.ensures c.differences_are_exact.ensures whole size c.in_ok-differs.differs (sym c.in_ok-differs.ensures))

pub returns-clause-shown : goal.returns-clause-shown
returns-clause-shown c =
    let f : TextFile = c.args.file.now in
    let whole = subst (λ (g : TextFile). IsProblem g.problem) c.file.view_is c.problem_is_whole.ensures in
    let size = length_all_zip (λ (value size : ℕ). value < size) c.args.report.now.values f.problem.sizes c.requires.fits.values in
    subst (λ (v : Verdict). ShowsReport f c.args.report.now v) (sym c.verdict_of.ensures)
    (shows_by f c.args.report.now c.args.log.now c.logs_show.ensures c.differences_are_exact.ensures whole size c.in_ok-differs.differs (sym c.in_ok-differs.ensures))

pub returns-clause-best : goal.returns-clause-best
returns-clause-best c =
    let f : TextFile = c.args.file.now in
    let whole = subst (λ (g : TextFile). IsProblem g.problem) c.file.view_is c.problem_is_whole.ensures in
    let size = length_all_zip (λ (value size : ℕ). value < size) c.args.report.now.values f.problem.sizes c.requires.fits.values in
    subst (λ (v : Verdict). ShowsBest f v) (sym c.verdict_of.ensures)
    (best_by f c.args.report.now c.args.log.now c.logs_show.ensures c.differences_are_exact.ensures whole size c.in_ok-differs.differs (sym c.in_ok-differs.ensures))
