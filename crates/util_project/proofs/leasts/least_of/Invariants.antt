use Rattle.std.proofs.Common.{◌≤◌, ◌-◌, get_or, length}
use Rattle.util_project.specs.Projection.{IsLeast}
use Rattle.util_project.proofs.leasts.least_of.Given as goal

abbrev pub invariant-loop-at : goal.invariant-loop-at
invariant-loop-at l = record {
  inside : l.at ≤ length l.cells;
  so_far : IsLeast (λ d. get_or l.cells d 0) l.at l.least;
}

abbrev pub decreases-loop-at : goal.decreases-loop-at
decreases-loop-at l = length l.cells - l.at
