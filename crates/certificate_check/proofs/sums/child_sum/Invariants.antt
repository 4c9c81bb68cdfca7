use Rattle.std.proofs.Common.{◌≡◌, min, take, get_or}
use Rattle.std.specs.List.{sum_by}
use Rattle.dcop_base.specs.Values.{cell_with}
use Rattle.minimised_problem.specs.Told.{sized}
use Rattle.certificate_check.proofs.PartLaws.{targets}
use Rattle.certificate_check.proofs.sums.child_sum.Given as goal

abbrev pub invariant-loop-util : goal.invariant-loop-util
invariant-loop-util l = l.sum ≡ min (sum_by (λ u. cell_with (sized l.sizes u) (λ v. get_or l.values v 0)) (take l.util-index (targets l.utils))) 18446744073709551615
