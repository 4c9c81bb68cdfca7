use Rattle.std.proofs.Common.{◌≤◌, arith}
use Rattle.std.proofs.lemmas.Result.{IfOk-weaker}
use Rattle.dcop_base.specs.Table.{product}
use Rattle.cost_table.proofs.RunLaws.{counts-of, count-cut, cells-of_runs}
use Rattle.cost_table.proofs.slicing.cells_at.Goals as goal

pub runs_of-requires-clause-full : goal.runs_of-requires-clause-full
runs_of-requires-clause-full c =
    let most : product c.args.sizes.now ≤ 18446744073709551615 = omega (arith, c.requires.full) in
    let counts = counts-of _ _ _ _ _ _ _ c.requires.inside c.requires.some most c.split_at.ensures.front c.split_at-2.ensures.back c.product_of-blocks.ensures c.product_of-inner.ensures in
    count-cut _ _ _ _ _ _ c.requires.inside c.requires.full counts c.from-size.ensures

pub runs_of-requires-clause-some : goal.runs_of-requires-clause-some
runs_of-requires-clause-some c =
    let most : product c.args.sizes.now ≤ 18446744073709551615 = omega (arith, c.requires.full) in
    (counts-of _ _ _ _ _ _ _ c.requires.inside c.requires.some most c.split_at.ensures.front c.split_at-2.ensures.back c.product_of-blocks.ensures c.product_of-inner.ensures).some

pub returns : goal.returns
returns c =
    let sizes = c.args.sizes.now in
    let cells = c.args.cells.now in
    let most : product sizes ≤ 18446744073709551615 = omega (arith, c.requires.full) in
    let counts = counts-of _ _ _ _ _ _ _ c.requires.inside c.requires.some most c.split_at.ensures.front c.split_at-2.ensures.back c.product_of-blocks.ensures c.product_of-inner.ensures in
    IfOk-weaker c.runs_of.result _ _ (λ kept runs. rw (← c.val.view_is) (cells-of_runs sizes cells c.args.place _ kept.items _ _ _ c.requires.inside counts c.from-size.ensures (rw c.from.ensures at runs))) c.runs_of.ensures
