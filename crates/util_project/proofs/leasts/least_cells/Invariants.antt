use Rattle.util_project.specs.Leasts.{AreLeastRuns}
use Rattle.util_project.proofs.leasts.least_cells.Given as goal

abbrev pub invariant-loop-block : goal.invariant-loop-block
invariant-loop-block l = AreLeastRuns l.cells l.block l.size 1 l.kept.items
