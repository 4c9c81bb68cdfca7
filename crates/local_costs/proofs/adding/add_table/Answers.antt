use Rattle.std.proofs.Common.{◌≡◌, ℕ, ◌+◌, List, map, min, length, get_or, ap, ap₂, ◌∙◌, arith}
use Rattle.dcop_base.specs.Table.{CostTable, cell_place}
use Rattle.dcop_base.specs.Values.{cell_with, with_own}
use Rattle.adopt_context.specs.Bounds.{cap}
use Rattle.protocol_steps.specs.Values.{valued}
use Rattle.local_costs.specs.Stride.{stride}
use Rattle.local_costs.proofs.PlaceLaws.{place_lt, place_by_stride}
use Rattle.local_costs.proofs.adding.add_table.Goals as goal

pub add_cells-requires-clause-within : goal.add_cells-requires-clause-within
add_cells-requires-clause-within c = λ d lt.
    let me = c.args.me in
    let f : ℕ → ℕ = valued c.args.known.now in
    let inside = c.table.inside in
    let wanted = c.requires.within d lt in
    let within = rw (← c.table.view_is) at wanted in
    let cells : length c.as_slice-cells.result.now ≡ length inside.cells = ap (λ (xs : List ℕ). length xs) c.as_slice-cells.ensures in
    let few = c.as_slice-cells.type_inv.0 in
    let place = place_by_stride me d f inside.scope inside.sizes inside.cells 18446744073709551615 c.place_at-first.result c.stride_of-stride.result c.table.invariant within (omega (arith, few, cells))
    (c.place_at-first.ensures ∙ ap₂ (λ (ss : List ℕ) (us : List ℕ). cell_place ss (map (with_own me 0 f) us)) c.as_slice-sizes.ensures c.as_slice-scope.ensures)
    (c.stride_of-stride.ensures ∙ ap₂ (λ (us : List ℕ) (ss : List ℕ). min (stride us ss me) 18446744073709551615) c.as_slice-scope.ensures c.as_slice-sizes.ensures) in
    let below = place_lt (with_own me d f) inside.scope inside.sizes inside.cells c.table.invariant within in
    omega (arith, place, below, cells)

pub returns-clause-added : goal.returns-clause-added
returns-clause-added c = λ d lt.
    let me = c.args.me in
    let f : ℕ → ℕ = valued c.args.known.now in
    let inside = c.table.inside in
    let wanted = c.requires.within d lt in
    let within = rw (← c.table.view_is) at wanted in
    let cells : length c.as_slice-cells.result.now ≡ length inside.cells = ap (λ (xs : List ℕ). length xs) c.as_slice-cells.ensures in
    let few = c.as_slice-cells.type_inv.0 in
    let place = place_by_stride me d f inside.scope inside.sizes inside.cells 18446744073709551615 c.place_at-first.result c.stride_of-stride.result c.table.invariant within (omega (arith, few, cells))
    (c.place_at-first.ensures ∙ ap₂ (λ (ss : List ℕ) (us : List ℕ). cell_place ss (map (with_own me 0 f) us)) c.as_slice-sizes.ensures c.as_slice-scope.ensures)
    (c.stride_of-stride.ensures ∙ ap₂ (λ (us : List ℕ) (ss : List ℕ). min (stride us ss me) 18446744073709551615) c.as_slice-scope.ensures c.as_slice-sizes.ensures) in
    let old = get_or c.args.costs.now d 0 in
    c.add_cells.ensures.added d lt
    ∙ ap₂ (λ (xs : List ℕ) (n : ℕ). cap (old + get_or xs n 0)) c.as_slice-cells.ensures place
    ∙ ap (λ (t : CostTable). cap (old + cell_with t (with_own me d f))) c.table.view_is
