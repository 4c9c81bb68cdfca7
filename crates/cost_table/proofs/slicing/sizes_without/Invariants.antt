use Rattle.std.proofs.Common.{◌≡◌, ◌++◌, take}
use Rattle.cost_table.proofs.slicing.sizes_without.Given as goal

abbrev pub invariant-loop-size : goal.invariant-loop-size
invariant-loop-size l = l.rest ≡ take l.place l.sizes ++ take l.size-index l.behind
