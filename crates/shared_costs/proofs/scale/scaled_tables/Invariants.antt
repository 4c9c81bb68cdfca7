use Rattle.std.proofs.Common.{take}
use Rattle.shared_costs.specs.Scales.{AreScaled}
use Rattle.shared_costs.proofs.scale.scaled_tables.Given as goal

abbrev pub invariant-loop-table : goal.invariant-loop-table
invariant-loop-table l = AreScaled l.scale (take l.table-index l.tables) l.scaled.items
