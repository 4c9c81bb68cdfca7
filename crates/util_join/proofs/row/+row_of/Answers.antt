use Rattle.std.proofs.Common.{◌≡◌, List, ℕ, length, ap, arith}
use Rattle.util_join.specs.Strides.{strides}
use Rattle.util_join.proofs.StrideLaws.{rest-few}
use Rattle.util_join.proofs.RowLaws.{row-whole}
use Rattle.util_join.proofs.row.+row_of.Goals as goal

pub row_of-row-requires : goal.row_of-row-requires
row_of-row-requires t c =
    let fewer = ap (λ (xs : List ℕ). length xs) c.in-Some.ensures.cases.0 in
    let long : length c.in-Some-split_first.sizes.now ≡ length c.in-Some.over.now = omega (arith, c.requires.sized, fewer, ap (λ (xs : List ℕ). length xs) c.in-Some-split_first.ensures.cases.0) in
    let few = rest-few c.args.sizes.now c.in-Some-split_first.sizes.now c.in-Some-split_first.size.now 18446744073709551615 c.in-Some-split_first.ensures.cases.0 c.requires.positive c.requires.few in
    (omega (arith, c.decreases, fewer), (long, (few.0, (few.1, c.requires.table))))

pub returns : goal.returns
returns t c =
    row-whole c.args.table.now c.args.over.now c.in-Some.over.now c.args.sizes.now c.in-Some-split_first.sizes.now c.in-Some.var.now c.in-Some-split_first.size.now
    c.stride_of.result c.from.result c.extended.result.start c.extended.result.count c.extended.result.width c.extended.result.step
    c.in-Some.ensures.cases.0 c.in-Some-split_first.ensures.cases.0 c.stride_of.ensures c.from.ensures
    (c.extended.ensures (strides c.args.table.now c.in-Some.over.now) c.in-Some-split_first.sizes.now c.row_of-row.ensures)
