use Rattle.std.proofs.Common.{◌≡◌, ◌-◌, map, ◌∙◌, ap}
use Rattle.dcop_base.specs.Table.{greatest}
use Rattle.dcop_optimum.proofs.TurnedTableLaws.{cells_below, turned_fault}
use Rattle.dcop_optimum.proofs.goal.turned_table.Goals as goal

pub cells_less-requires : goal.cells_less-requires
cells_less-requires c = rw c.greatest_of.ensures (cells_below c.as_slice-cells.result.now)

pub invariant_of-result : goal.invariant_of-result
invariant_of-result c =
    let t = c.table.inside in
    let scope : c.from_vec.result ≡ t.scope = c.from_vec.ensures ∙ c.in_ok-scope.ensures.items ∙ c.as_slice.ensures in
    let sizes : c.from_vec-2.result ≡ t.sizes = c.from_vec-2.ensures ∙ c.in_ok-sizes.ensures.items ∙ c.as_slice-2.ensures in
    let cells : c.in_ok-shared.field-0 ≡ map (λ cell. greatest t.cells - cell) t.cells =
    c.in_ok-shared.ensures ∙ c.in_ok-cells.ensures ∙ ap (λ top. map (λ cell. top - cell) c.as_slice-cells.result.now) c.greatest_of.ensures ∙ ap (λ cells. map (λ cell. greatest cells - cell) cells) c.as_slice-cells.ensures in
    rw (scope, sizes, cells) (turned_fault t.scope t.sizes t.cells c.table.invariant)
