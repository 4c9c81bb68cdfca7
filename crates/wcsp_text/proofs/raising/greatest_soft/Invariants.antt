use Rattle.std.proofs.Common.{◌≡◌, take}
use Rattle.wcsp_text.specs.Problems.{greatest_below}
use Rattle.wcsp_text.proofs.raising.greatest_soft.Given as goal

abbrev pub invariant-loop-cell : goal.invariant-loop-cell
invariant-loop-cell l = l.greatest ≡ greatest_below l.top (take l.cell-index l.cells)
