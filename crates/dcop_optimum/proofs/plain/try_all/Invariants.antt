use Rattle.std.proofs.Common.{◌-◌}
use Rattle.dcop_base.specs.Table.{product, cell_place}
use Rattle.dcop_optimum.proofs.BestLaws.{IsBestSoFar}
use Rattle.dcop_optimum.proofs.plain.try_all.Given as goal

abbrev pub invariant-loop-problem : goal.invariant-loop-problem
invariant-loop-problem l = IsBestSoFar l.problem l.values l.best l.least

abbrev pub decreases-loop-problem : goal.decreases-loop-problem
decreases-loop-problem l = product l.problem.sizes - cell_place l.problem.sizes l.values
