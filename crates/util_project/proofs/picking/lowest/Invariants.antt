use Rattle.std.proofs.Common.{◌+◌, ◌*◌, get_or}
use Rattle.util_project.specs.Projection.{IsLowestLeast}
use Rattle.util_project.proofs.picking.lowest.Given as goal

abbrev pub invariant-loop-number : goal.invariant-loop-number
invariant-loop-number l = IsLowestLeast (λ d. get_or l.cells (l.first + d * l.stride) 0) l.number l.best
