use Rattle.std.proofs.Common.{◌≡◌, ◌*◌, ◌≤◌, take}
use Rattle.std.specs.List.{sum}
use Rattle.bound_search.proofs.searching.total_of.Given as goal

abbrev pub invariant-loop-size : goal.invariant-loop-size
invariant-loop-size l = record {
  so_far : l.total ≡ sum (take l.size-index l.sizes);
  few : l.total ≤ 65535 * l.size-index;
}
