use Rattle.std.proofs.Common.{◌≡◌, take}
use Rattle.cost_table.specs.Slices.{ones_at}
use Rattle.report_reader.proofs.turns.slice_sizes.Given as goal

abbrev pub invariant-loop-var : goal.invariant-loop-var
invariant-loop-var l = l.slice.items ≡ ones_at (take l.var-index l.cut) l.sizes
