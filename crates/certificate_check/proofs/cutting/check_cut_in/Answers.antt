use Rattle.std.proofs.Common.{sym, ap, ◌∙◌, arith}
use Rattle.std.specs.List.{position_or_len}
use Rattle.std.specs.Option.{is_none}
use Rattle.std.proofs.lemmas.Result.{IfOk-weaker}
use Rattle.dcop_base.specs.Problem.{Dcop}
use Rattle.minimised_problem.specs.Told.{parents_told}
use Rattle.certificate_text.specs.Turns.{first_tables}
use Rattle.certificate_check.specs.Verdicts.{IsTreeVerdict, IsCutVerdict}
use Rattle.certificate_check.proofs.RootLaws.{root_is, root_below}
use Rattle.certificate_check.proofs.TurnLaws.{some_turn, first_one, first_parents_fit}
use Rattle.certificate_check.proofs.VerdictLaws.{cut_tree_first}
use Rattle.certificate_check.proofs.cutting.check_cut_in.Goals as goal

pub parents_of-requires : goal.parents_of-requires
parents_of-requires c =
    let some = some_turn c.args.problem.now c.args.cut.now c.args.turns.now c.problem_is_whole.ensures c.requires.fits in
    rw c.first_tables.ensures (first_one c.args.problem.now c.args.cut.now c.args.turns.now some c.requires.fits)

pub check_tree-requires : goal.check_tree-requires
check_tree-requires c =
    let some = some_turn c.args.problem.now c.args.cut.now c.args.turns.now c.problem_is_whole.ensures c.requires.fits in
    first_parents_fit c.args.problem.now c.args.cut.now c.args.turns.now some c.requires.fits c.as_slice.result.now
    (c.as_slice.ensures.value ∙ c.in_ok-parents.ensures ∙ ap (parents_told c.args.problem.now) c.first_tables.ensures)

pub root_in-root-requires-clause-some : goal.root_in-root-requires-clause-some
root_in-root-requires-clause-some c =
    root_below c.in-Ok.tree.paths c.as_slice-in-Ok.result.now c.in-Ok.ensures.tree.pseudotree.tree
    (c.as_slice-in-Ok.ensures.value ∙ sym c.as_slice.ensures.value ∙ c.in-Ok.ensures.parents)

pub cut_difference-requires-clause-within : goal.cut_difference-requires-clause-within
cut_difference-requires-clause-within c =
    let lt = (root_is c.in-Ok.tree.paths c.in-Ok.ensures.tree.pseudotree.tree).0 in
    let count = c.in-Ok.ensures.tree.pseudotree.sized in
    let same = ap (position_or_len is_none) (c.as_slice-in-Ok.ensures.value ∙ sym c.as_slice.ensures.value ∙ c.in-Ok.ensures.parents) in
    let is = c.root_in-root.ensures in
    omega (arith, lt, count, same, is)

pub returns : goal.returns
returns c =
    IfOk-weaker c.tree_verdict.result (IsTreeVerdict c.args.problem.now c.as_slice.result.now) (IsCutVerdict c.args.file.now c.args.report.now c.args.cut.now c.args.turns.now)
    (cut_tree_first c.args.file.now c.args.report.now c.args.cut.now c.args.turns.now c.args.problem.now c.as_slice.result.now c.requires.solved
    (c.as_slice.ensures.value ∙ c.in_ok-parents.ensures ∙ ap (parents_told c.args.problem.now) c.first_tables.ensures ∙ ap (λ (p : Dcop). parents_told p (first_tables c.args.turns.now)) c.requires.solved))
    (c.tree_verdict.ensures c.args.problem.now c.as_slice.result.now c.in-Err.ensures.fault)
