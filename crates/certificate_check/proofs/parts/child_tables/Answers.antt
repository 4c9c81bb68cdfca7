use Rattle.std.proofs.Common.{◌≡◌, ◌<◌, ℕ, List, length, get_or, ap, ◌∙◌, arith}
use Rattle.pseudotree.specs.Tree.{children_of}
use Rattle.certificate_check.proofs.PartLaws.{child_below}
use Rattle.certificate_check.proofs.parts.child_tables.Goals as goal

pub util_of-requires : goal.util_of-requires
util_of-requires c =
    let count = c.requires.tree.pseudotree.sized in
    let all : c.as_slice-child-items.result.now ≡ children_of c.args.tree.now.paths c.args.var = c.as_slice-child-items.ensures ∙ c.children.ensures in
    let in_tree = child_below c.args.tree.now.paths c.args.var c.loop-child.child-index c.child-item.result (rw (← all) c.loop-child-test.true)
    (c.child-item.is ∙ ap (λ (xs : List ℕ). get_or xs c.loop-child.child-index c.child-item.result) all) in
    let lt : c.child-item.result < length c.args.problem.now.sizes = omega (arith, in_tree) in
    c.requires.fits.one c.child-item.result lt
