use Rattle.util_project.specs.Leasts.{AreLeastRuns}
use Rattle.util_project.proofs.leasts.least_runs.Given as goal

abbrev pub invariant-loop-block : goal.invariant-loop-block
invariant-loop-block l = AreLeastRuns l.cells l.block l.size l.inner l.kept.items
