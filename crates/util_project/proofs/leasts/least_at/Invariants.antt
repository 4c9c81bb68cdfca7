use Rattle.std.proofs.Common.{◌+◌, ◌*◌, get_or}
use Rattle.util_project.specs.Projection.{IsLeast}
use Rattle.util_project.proofs.leasts.least_at.Given as goal

abbrev pub invariant-loop-number : goal.invariant-loop-number
invariant-loop-number l = IsLeast (λ d. get_or l.block (d * l.inner + l.place) 0) l.number l.least
