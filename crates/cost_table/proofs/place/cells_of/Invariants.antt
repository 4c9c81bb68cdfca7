use Rattle.std.proofs.Common.{◌≡◌, ◌*◌, drop}
use Rattle.dcop_base.specs.Table.{product}
use Rattle.cost_table.proofs.place.cells_of.Given as goal

abbrev pub invariant-loop-size : goal.invariant-loop-size
invariant-loop-size l = l.product * product (drop l.size-index l.sizes) ≡ product l.sizes
