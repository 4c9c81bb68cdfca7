use Rattle.std.proofs.Common.{min, ap, ◌∙◌, ℕ}
use Rattle.wcsp_text.specs.Problems.{raised}
use Rattle.wcsp_text.proofs.RaisingLaws.{raise-more}
use Rattle.wcsp_text.proofs.raising.raise.Goals as goal

pub loop-cell-preserved : goal.loop-cell-preserved
loop-cell-preserved c = raise-more (λ x. min (raised c.args.top c.args.hard x) 4611686018427387904) c.args.cells.now c.loop-cell.cells c.loop-cell.cell-index c.min.result c.loop-cell-test.true c.loop-cell.invariant (c.min.ensures ∙ ap (λ (n : ℕ). min n 4611686018427387904) c.raised.ensures)
