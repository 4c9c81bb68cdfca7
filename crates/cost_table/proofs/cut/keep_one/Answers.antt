use Rattle.cost_table.proofs.CutLaws.{keeps-one}
use Rattle.cost_table.proofs.cut.keep_one.Goals as goal

pub invariant_of-result : goal.invariant_of-result
invariant_of-result c =
    let one = keeps-one c.args.scope.now c.args.sizes.now c.args.cells.now c.args.place c.args.val c.in_ok-kept.kept.items c.requires.whole c.requires.inside c.in_ok-kept.ensures in
    rw (c.in_ok-shared.ensures, c.in_ok-sizes.ensures, c.scope.view_is, c.in_ok-scope.ensures) one.whole

pub returns : goal.returns
returns c =
    let one = keeps-one c.args.scope.now c.args.sizes.now c.args.cells.now c.args.place c.args.val c.in_ok-kept.kept.items c.requires.whole c.requires.inside c.in_ok-kept.ensures in
    rw (c.in_ok-shared.ensures, c.in_ok-sizes.ensures, c.scope.view_is, c.in_ok-scope.ensures) one
