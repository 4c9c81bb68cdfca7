use Rattle.util_project.specs.Leasts.{AreLeastRuns}
use Rattle.util_project.proofs.leasts.least_fours.Given as goal

abbrev pub invariant-loop-block : goal.invariant-loop-block
invariant-loop-block l = AreLeastRuns l.cells l.block 4 1 l.kept.items
