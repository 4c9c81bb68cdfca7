use Rattle.std.proofs.Common.{ap, ◌∙◌}
use Rattle.std.proofs.lemmas.Result.{IfOk-weaker}
use Rattle.dcop_base.specs.Problem.{Dcop}
use Rattle.minimised_problem.specs.Told.{parents_told}
use Rattle.certificate_check.specs.Verdicts.{IsTreeVerdict, IsTablesVerdict}
use Rattle.certificate_check.proofs.VerdictLaws.{parents_fit, tree_first}
use Rattle.certificate_check.proofs.checking.check_in.Goals as goal

pub parents_of-requires : goal.parents_of-requires
parents_of-requires c = c.requires.fits.one

pub check_tree-requires : goal.check_tree-requires
check_tree-requires c =
    parents_fit c.args.problem.now c.args.utils.now c.requires.fits c.as_slice.result.now (c.as_slice.ensures.value ∙ c.in_ok-parents.ensures)

pub returns : goal.returns
returns c =
    IfOk-weaker c.tree_verdict.result (IsTreeVerdict c.args.problem.now c.as_slice.result.now) (IsTablesVerdict c.args.file.now c.args.report.now c.args.utils.now)
    (tree_first c.args.file.now c.args.report.now c.args.utils.now c.args.problem.now c.as_slice.result.now c.requires.solved
    (c.as_slice.ensures.value ∙ c.in_ok-parents.ensures ∙ ap (λ (p : Dcop). parents_told p c.args.utils.now) c.requires.solved))
    (c.tree_verdict.ensures c.args.problem.now c.as_slice.result.now c.in-Err.ensures.fault)
