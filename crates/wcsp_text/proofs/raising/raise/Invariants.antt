use Rattle.std.proofs.Common.{◌≡◌, ◌++◌, take, drop, map, min}
use Rattle.wcsp_text.specs.Problems.{raised}
use Rattle.wcsp_text.proofs.raising.raise.Given as goal

-- the cells so far are raised
abbrev pub invariant-loop-cell : goal.invariant-loop-cell
invariant-loop-cell l = l.cells ≡ map (λ c. min (raised l.top l.hard c) 4611686018427387904) (take l.cell-index l.initial.cells) ++ drop l.cell-index l.initial.cells
