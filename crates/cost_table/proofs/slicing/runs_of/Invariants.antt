use Rattle.cost_table.specs.Runs.{AreRuns}
use Rattle.cost_table.proofs.slicing.runs_of.Given as goal

abbrev pub invariant-loop-block : goal.invariant-loop-block
invariant-loop-block l = AreRuns l.cells l.block l.size l.inner l.number l.kept.items
