use Rattle.std.proofs.Common.{length}
use Rattle.util_join.specs.Strides.{strides, along}
use Rattle.util_join.proofs.BlockLaws.{IsPartSum}
use Rattle.util_join.proofs.add.+add_block.Given as goal

abbrev pub decreases-add_block : goal.decreases-add_block
decreases-add_block l = length l.over.now

abbrev pub invariant-loop-k : goal.invariant-loop-k
invariant-loop-k l = IsPartSum l.from (strides l.table l.over) l.sizes l.row.count (along l.row.width l.row.step) l.stride l.k l.fn.cells l.cells
