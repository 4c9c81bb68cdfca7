use Rattle.std.proofs.Common.{◌≡◌, ◌*◌, take, map}
use Rattle.shared_costs.proofs.table.scaled_cells.Given as goal

abbrev pub invariant-loop-cell : goal.invariant-loop-cell
invariant-loop-cell l = l.scaled.items ≡ map (λ c. l.scale * c) (take l.cell-index l.cells)
