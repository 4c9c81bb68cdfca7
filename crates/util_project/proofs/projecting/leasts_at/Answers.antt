use Rattle.std.proofs.Common.{◌≤◌, arith}
use Rattle.std.proofs.lemmas.Result.{IfOk-weaker}
use Rattle.dcop_base.specs.Table.{product}
use Rattle.cost_table.proofs.RunLaws.{counts-of, count-cut}
use Rattle.util_project.proofs.LeastLaws.{leasts-of-runs}
use Rattle.util_project.proofs.projecting.leasts_at.Goals as goal

pub least_runs-requires-clause-full : goal.least_runs-requires-clause-full
least_runs-requires-clause-full c =
    let most : product c.args.sizes.now ≤ 18446744073709551615 = omega (arith, c.requires.full) in
    let counts = counts-of _ _ _ _ _ _ _ c.requires.inside c.requires.some most c.split_at.ensures.front c.split_at-2.ensures.back c.product_of-blocks.ensures c.product_of-inner.ensures in
    count-cut _ _ _ _ _ _ c.requires.inside c.requires.full counts c.from.ensures

pub returns : goal.returns
returns c =
    let sizes = c.args.sizes.now in
    let most : product sizes ≤ 18446744073709551615 = omega (arith, c.requires.full) in
    let counts = counts-of _ _ _ _ _ _ _ c.requires.inside c.requires.some most c.split_at.ensures.front c.split_at-2.ensures.back c.product_of-blocks.ensures c.product_of-inner.ensures in
    IfOk-weaker c.least_runs.result _ _ (λ kept runs. leasts-of-runs sizes c.args.cells.now c.args.place kept.items _ _ _ c.requires.inside counts c.from.ensures runs) c.least_runs.ensures
