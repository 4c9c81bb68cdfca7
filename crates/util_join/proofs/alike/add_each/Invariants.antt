use Rattle.std.proofs.Common.{◌≡◌, ℕ, ◌-◌, ◌*◌, ◌<◌, length}
use Rattle.util_join.proofs.AlikeLaws.{AreDone}
use Rattle.util_join.proofs.alike.add_each.Given as goal

abbrev pub invariant-loop-cells : goal.invariant-loop-cells
invariant-loop-cells l = record {
  inside : l.at < length l.fn.cells;
  whole : (rows : ℕ) × (l.at ≡ rows * l.width);
  done : AreDone l.from l.width l.step l.at l.fn.cells l.cells;
}

abbrev pub decreases-loop-cells : goal.decreases-loop-cells
decreases-loop-cells l = length l.fn.cells - l.at
