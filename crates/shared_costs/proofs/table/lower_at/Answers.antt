use Rattle.std.proofs.Common.{◌≤◌, arith}
use Rattle.dcop_base.specs.Table.{product}
use Rattle.cost_table.proofs.RunLaws.{counts-of, count-cut}
use Rattle.shared_costs.proofs.MoveLaws.{lows-at}
use Rattle.shared_costs.proofs.table.lower_at.Goals as goal

pub lower-requires-clause-full : goal.lower-requires-clause-full
lower-requires-clause-full c =
    let most : product c.args.sizes.now ≤ 18446744073709551615 = omega (arith, c.requires.full) in
    let counts = counts-of _ _ _ _ _ _ _ c.requires.inside c.requires.some most c.split_at.ensures.front c.split_at-2.ensures.back c.product_of-blocks.ensures c.product_of-inner.ensures in
    count-cut _ _ _ _ _ _ c.requires.inside c.requires.full counts c.requires.many

pub lower-requires-clause-some : goal.lower-requires-clause-some
lower-requires-clause-some c =
    let most : product c.args.sizes.now ≤ 18446744073709551615 = omega (arith, c.requires.full) in
    let counts = counts-of _ _ _ _ _ _ _ c.requires.inside c.requires.some most c.split_at.ensures.front c.split_at-2.ensures.back c.product_of-blocks.ensures c.product_of-inner.ensures in
    counts.some

pub returns : goal.returns
returns c =
    let most : product c.args.sizes.now ≤ 18446744073709551615 = omega (arith, c.requires.full) in
    let counts = counts-of _ _ _ _ _ _ _ c.requires.inside c.requires.some most c.split_at.ensures.front c.split_at-2.ensures.back c.product_of-blocks.ensures c.product_of-inner.ensures in
    lows-at c.args.sizes.now c.args.cells.now c.args.place _ c.args.lows.now _ c.lower.ensures counts.behind c.requires.many c.requires.small
