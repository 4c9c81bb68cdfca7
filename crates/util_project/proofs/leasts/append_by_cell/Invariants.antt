use Rattle.util_project.specs.Leasts.{AppendsLeasts}
use Rattle.util_project.proofs.leasts.append_by_cell.Given as goal

abbrev pub invariant-loop-place : goal.invariant-loop-place
invariant-loop-place l = AppendsLeasts l.block l.size l.inner l.place l.fn.kept.items l.kept.items
