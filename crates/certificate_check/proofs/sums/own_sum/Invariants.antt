use Rattle.std.proofs.Common.{◌≡◌, min, take, get_or}
use Rattle.dcop_base.specs.Values.{cost_with}
use Rattle.certificate_check.proofs.PartLaws.{targets}
use Rattle.certificate_check.proofs.sums.own_sum.Given as goal

abbrev pub invariant-loop-table : goal.invariant-loop-table
invariant-loop-table l = l.sum ≡ min (cost_with (take l.table-index (targets l.tables)) (λ v. get_or l.values v 0)) 18446744073709551615
