use Rattle.std.proofs.Common.{arith}
use Rattle.shared_costs.proofs.ScaleLaws.{cell-scaled}
use Rattle.shared_costs.proofs.table.scaled_cells.Goals as goal

pub overflow_mul-scale : goal.overflow_mul-scale
overflow_mul-scale c = omega (arith, cell-scaled c.args.scale c.args.cells.now c.loop-cell.cell-index c.requires)
