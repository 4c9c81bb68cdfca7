use Rattle.std.proofs.Common.{◌≡◌, ℕ, ◌+◌, List, map, min, length, get_or, sym, ap, ap₂, subst, ◌∙◌, arith}
use Rattle.dcop_base.specs.Table.{CostTable, AreWithin, cell_place, values_at}
use Rattle.dcop_base.specs.Values.{cell_with, with_own}
use Rattle.util_join.specs.Strides.{stride}
use Rattle.bound_search.proofs.PlaceLaws.{place_by_stride, own_values}
use Rattle.bound_search.proofs.row.add_table.Goals as goal

pub place_at-first-requires-clause-sizes : goal.place_at-first-requires-clause-sizes
place_at-first-requires-clause-sizes c =
    let f : ℕ → ℕ = λ v. get_or c.args.values.now v 0 in
    let inside = c.table.inside in
    let wanted = c.requires.cells.each 0 c.requires.some in
    let within = rw (← c.table.view_is) at wanted in
    let plain : AreWithin inside.sizes (map f inside.scope) = subst (λ (xs : List ℕ). AreWithin inside.sizes xs) (own_values c.args.var 0 f inside.scope c.requires.zero) within in
    subst (λ (ss : List ℕ). AreWithin ss (values_at c.as_slice-scope.result.now c.args.values.now)) (sym c.as_slice-sizes.ensures)
    (subst (λ (us : List ℕ). AreWithin inside.sizes (values_at us c.args.values.now)) (sym c.as_slice-scope.ensures) plain)

pub add_cells-requires-clause-inside : goal.add_cells-requires-clause-inside
add_cells-requires-clause-inside c = λ d lt.
    let f : ℕ → ℕ = λ v. get_or c.args.values.now v 0 in
    let inside = c.table.inside in
    let wanted = c.requires.cells.each d lt in
    let within = rw (← c.table.view_is) at wanted in
    let cells : length c.as_slice-cells.result.now ≡ length inside.cells = ap (λ (xs : List ℕ). length xs) c.as_slice-cells.ensures in
    let few = c.as_slice-cells.type_inv.0 in
    let place = place_by_stride c.args.var d f inside.scope inside.sizes inside.cells 18446744073709551615 c.place_at-first.result c.stride_of-stride.result c.table.invariant within c.requires.zero (omega (arith, few, cells))
    (c.place_at-first.ensures ∙ ap₂ (λ (ss : List ℕ) (us : List ℕ). cell_place ss (map f us)) c.as_slice-sizes.ensures c.as_slice-scope.ensures)
    (c.stride_of-stride.ensures ∙ ap₂ (λ (us : List ℕ) (ss : List ℕ). min (stride us ss c.args.var) 18446744073709551615) c.as_slice-scope.ensures c.as_slice-sizes.ensures) in
    omega (arith, place.1, cells)

pub add_cells-requires-clause-within : goal.add_cells-requires-clause-within
add_cells-requires-clause-within c = λ d lt.
    let f : ℕ → ℕ = λ v. get_or c.args.values.now v 0 in
    let inside = c.table.inside in
    let wanted = c.requires.cells.each d lt in
    let within = rw (← c.table.view_is) at wanted in
    let cells : length c.as_slice-cells.result.now ≡ length inside.cells = ap (λ (xs : List ℕ). length xs) c.as_slice-cells.ensures in
    let few = c.as_slice-cells.type_inv.0 in
    let place = place_by_stride c.args.var d f inside.scope inside.sizes inside.cells 18446744073709551615 c.place_at-first.result c.stride_of-stride.result c.table.invariant within c.requires.zero (omega (arith, few, cells))
    (c.place_at-first.ensures ∙ ap₂ (λ (ss : List ℕ) (us : List ℕ). cell_place ss (map f us)) c.as_slice-sizes.ensures c.as_slice-scope.ensures)
    (c.stride_of-stride.ensures ∙ ap₂ (λ (us : List ℕ) (ss : List ℕ). min (stride us ss c.args.var) 18446744073709551615) c.as_slice-scope.ensures c.as_slice-sizes.ensures) in
    let cell = ap₂ (λ (xs : List ℕ) (n : ℕ). get_or xs n 0) c.as_slice-cells.ensures place.0 ∙ ap (λ (t : CostTable). cell_with t (with_own c.args.var d f)) c.table.view_is in
    omega (arith, cell, c.requires.within d lt)

pub returns : goal.returns
returns c = λ d lt.
    let f : ℕ → ℕ = λ v. get_or c.args.values.now v 0 in
    let inside = c.table.inside in
    let wanted = c.requires.cells.each d lt in
    let within = rw (← c.table.view_is) at wanted in
    let cells : length c.as_slice-cells.result.now ≡ length inside.cells = ap (λ (xs : List ℕ). length xs) c.as_slice-cells.ensures in
    let few = c.as_slice-cells.type_inv.0 in
    let place = place_by_stride c.args.var d f inside.scope inside.sizes inside.cells 18446744073709551615 c.place_at-first.result c.stride_of-stride.result c.table.invariant within c.requires.zero (omega (arith, few, cells))
    (c.place_at-first.ensures ∙ ap₂ (λ (ss : List ℕ) (us : List ℕ). cell_place ss (map f us)) c.as_slice-sizes.ensures c.as_slice-scope.ensures)
    (c.stride_of-stride.ensures ∙ ap₂ (λ (us : List ℕ) (ss : List ℕ). min (stride us ss c.args.var) 18446744073709551615) c.as_slice-scope.ensures c.as_slice-sizes.ensures) in
    let cell = ap₂ (λ (xs : List ℕ) (n : ℕ). get_or xs n 0) c.as_slice-cells.ensures place.0 ∙ ap (λ (t : CostTable). cell_with t (with_own c.args.var d f)) c.table.view_is in
    c.add_cells.ensures d lt ∙ ap (λ (n : ℕ). get_or c.args.row.now d 0 + n) cell
