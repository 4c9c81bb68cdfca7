use Rattle.std.proofs.Common.{◌≡◌, ℕ, List, Option, sym, ap, subst, ◌∙◌}
use Rattle.std.proofs.lemmas.Result.{IfOk-weaker}
use Rattle.dcop_base.specs.Problem.{Dcop}
use Rattle.dcop_base.specs.Table.{AreWithin}
use Rattle.delivery_core.specs.Agents.{network_of}
use Rattle.problem_text.specs.File.{TextFile}
use Rattle.certificate_text.specs.declared.verdict.Differs.{Differs}
use Rattle.minimised_problem.proofs.SolvedLaws.{solved_sizes}
use Rattle.minimised_problem.specs.Differences.{log_difference}
use Rattle.log_check.specs.Shows.{IsToldBy}
use Rattle.log_check.proofs.CheckLaws.{within_of}
use Rattle.log_check.proofs.DifferLaws.{fault_is, end_is, log_is, start_is}
use Rattle.log_check.proofs.checking.difference_in.Goals as goal

pub end_difference-requires-clause-values : goal.end_difference-requires-clause-values
end_difference-requires-clause-values c = within_of c.args.report.now.values c.args.file.now.problem.sizes c.requires.fits.values

pub end_difference-requires-clause-turned : goal.end_difference-requires-clause-turned
end_difference-requires-clause-turned c =
    let sizes = ap (λ (p : Dcop). p.sizes) c.requires.solved ∙ solved_sizes c.args.file.now.goal c.args.file.now.problem in
    subst (λ (ss : List ℕ). AreWithin ss c.args.report.now.values) (sym sizes) (within_of c.args.report.now.values c.args.file.now.problem.sizes c.requires.fits.values)

pub returns-in-Ok : goal.returns-in-Ok
returns-in-Ok c =
    let f : TextFile = c.args.file.now in
    let r = c.args.report.now in
    let net = network_of c.args.problem.now c.in_ok-start.start in
    end_is f r net c.args.log.now c.in-Ok.core c.end_difference.result c.end_difference.ensures c.in-Ok.ensures.end
    ∙ log_is f r net c.args.log.now (start_is f r c.args.problem.now c.in_ok-start.start c.requires.solved c.in_ok-start.ensures.agents)

pub returns : goal.returns
returns c =
    let f : TextFile = c.args.file.now in
    let r = c.args.report.now in
    let net = network_of c.args.problem.now c.in_ok-start.start in
    IfOk-weaker c.fault_difference.result (IsToldBy c.in-Err.fault) (λ (told : Option Differs). told ≡ log_difference f r c.args.log.now)
    (λ told is. fault_is f r net c.args.log.now c.in-Err.fault told is c.in-Err.ensures.end
    ∙ log_is f r net c.args.log.now (start_is f r c.args.problem.now c.in_ok-start.start c.requires.solved c.in_ok-start.ensures.agents))
    c.fault_difference.ensures
