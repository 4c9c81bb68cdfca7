use Rattle.std.proofs.Common.{ℕ, ◌<◌, length, get_or, sym, ap, subst, arith}
use Rattle.std.proofs.lemmas.List.Sums.{sum_by-drop_more}
use Rattle.dcop_base.specs.Table.{CostTable}
use Rattle.dcop_base.specs.Values.{cell_with, with_own}
use Rattle.bound_search.specs.Grounds.{HasRow}
use Rattle.bound_search.proofs.row.add_tables.Goals as goal

pub add_table-requires-clause-cells : goal.add_table-requires-clause-cells
add_table-requires-clause-cells c =
    let all = c.requires.cells c.loop-table.table-index c.table-item.result c.loop-table-test.true in
    subst (λ (n : ℕ). HasRow c.args.values.now c.args.var n c.table-item.result) (sym c.loop-table.auto.row)
    (subst (λ (t : CostTable). HasRow c.args.values.now c.args.var (length c.args.row.now) t) (sym c.table-item.is) all)

pub add_table-requires-clause-within : goal.add_table-requires-clause-within
add_table-requires-clause-within c = λ d lt.
    let f : ℕ → ℕ = with_own c.args.var d (λ v. get_or c.args.values.now v 0) in
    let inside : d < length c.args.row.now = omega (arith, lt, c.loop-table.auto.row) in
    let more = sum_by-drop_more (λ t. cell_with t f) c.args.tables.now c.loop-table.table-index c.table-item.result c.loop-table-test.true in
    let cell = ap (λ (t : CostTable). cell_with t f) c.table-item.is in
    omega (arith, more, cell, c.loop-table.invariant d inside, c.requires.within d inside)

pub loop-table-preserved : goal.loop-table-preserved
loop-table-preserved c = λ d lt.
    let f : ℕ → ℕ = with_own c.args.var d (λ v. get_or c.args.values.now v 0) in
    let inside : d < length c.loop-table.row = omega (arith, lt, c.loop-table.auto.row) in
    let more = sum_by-drop_more (λ t. cell_with t f) c.args.tables.now c.loop-table.table-index c.table-item.result c.loop-table-test.true in
    let cell = ap (λ (t : CostTable). cell_with t f) c.table-item.is in
    omega (arith, more, cell, c.loop-table.invariant d lt, c.add_table.ensures d inside)
