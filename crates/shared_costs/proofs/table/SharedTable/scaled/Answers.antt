use Rattle.dcop_base.specs.Table.{CostTable}
use Rattle.shared_costs.proofs.ScaleLaws.{scaled-parts}
use Rattle.shared_costs.proofs.table.SharedTable.scaled.Goals as goal

pub invariant_of-result : goal.invariant_of-result
invariant_of-result c =
    let u : CostTable = record { scope = c.table.inside.scope; sizes = c.table.inside.sizes; cells = c.table.inside.cells } in
    (scaled-parts c.args.table.now u c.args.scale c.in_ok-clone.field-0 c.in_ok-clone-2.field-0 c.as_slice.result.now c.in_ok-scaled_cells.field-0.items c.table.view_is c.table.invariant
    c.in_ok-clone.ensures.cases c.in_ok-clone-2.ensures.cases c.as_slice.ensures c.in_ok-scaled_cells.ensures c.requires).whole

pub returns : goal.returns
returns c =
    let u : CostTable = record { scope = c.table.inside.scope; sizes = c.table.inside.sizes; cells = c.table.inside.cells } in
    scaled-parts c.args.table.now u c.args.scale c.in_ok-clone.field-0 c.in_ok-clone-2.field-0 c.as_slice.result.now c.in_ok-scaled_cells.field-0.items c.table.view_is c.table.invariant
    c.in_ok-clone.ensures.cases c.in_ok-clone-2.ensures.cases c.as_slice.ensures c.in_ok-scaled_cells.ensures c.requires
