use Rattle.std.proofs.Common.{sym, ap, ◌∙◌, arith}
use Rattle.std.specs.List.{position_or_len}
use Rattle.std.specs.Option.{is_none}
use Rattle.certificate_check.proofs.FirstLaws.{not_told}
use Rattle.certificate_check.proofs.RootLaws.{apart_from, root_is}
use Rattle.certificate_check.proofs.behind.difference_in.Goals as goal

pub cells_difference-requires-clause-apart : goal.cells_difference-requires-clause-apart
cells_difference-requires-clause-apart c =
    apart_from c.args.problem.now c.args.tree.now.paths c.args.utils.now c.requires.tree.pseudotree
    (sym c.scopes_difference-differs.ensures ∙ not_told c.scopes_difference-differs.result (sym c.is_some.ensures ∙ c.if-is_some.false))

pub root_cell-root-requires-clause-root : goal.root_cell-root-requires-clause-root
root_cell-root-requires-clause-root c =
    let count = c.requires.tree.pseudotree.sized in
    let lt = (root_is c.args.tree.now.paths c.requires.tree.pseudotree.tree).0 in
    let same = ap (position_or_len is_none) c.requires.parents in
    omega (arith, lt, same, count)
