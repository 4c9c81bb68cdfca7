use Rattle.std.proofs.Common.{[]}
use Rattle.util_join.specs.Strides.{along}
use Rattle.util_join.proofs.BlockLaws.{IsPartSum}
use Rattle.util_join.proofs.add.add_near_rows.Given as goal

abbrev pub invariant-loop-k : goal.invariant-loop-k
invariant-loop-k l = IsPartSum l.from [] [] l.width (along l.width 1) l.stride l.k l.fn.cells l.cells
