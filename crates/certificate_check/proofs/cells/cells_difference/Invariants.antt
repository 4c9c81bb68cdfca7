use Rattle.std.proofs.Common.{◌≡◌, None}
use Rattle.std.specs.List.{range_with_len}
use Rattle.certificate_check.specs.Differences.{first_of, cells_difference}
use Rattle.certificate_check.proofs.cells.cells_difference.Given as goal

abbrev pub invariant-loop-index : goal.invariant-loop-index
invariant-loop-index l = first_of (cells_difference l.problem l.tree.paths l.utils) (range_with_len 0 l.index) ≡ None
