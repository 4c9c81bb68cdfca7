use Rattle.cost_table.proofs.CutLaws.{IsCutSoFar}
use Rattle.cost_table.proofs.cut.cut_table.Given as goal

abbrev pub invariant-loop-k : goal.invariant-loop-k
invariant-loop-k l = IsCutSoFar l.table l.slice l.cut l.values l.k
