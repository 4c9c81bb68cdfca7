use Rattle.std.proofs.Common.{◌≡◌, None}
use Rattle.std.specs.List.{range_with_len}
use Rattle.certificate_check.specs.Odometer.{IsAtCell}
use Rattle.certificate_check.specs.Differences.{first_of, cell_difference}
use Rattle.certificate_check.proofs.PartLaws.{targets}
use Rattle.certificate_check.proofs.cells.table_difference.Given as goal

abbrev pub invariant-loop-k : goal.invariant-loop-k
invariant-loop-k l = record {
  none : first_of (cell_difference l.sizes (targets l.own) (targets l.children) l.util) (range_with_len 0 l.k) ≡ None;
  at : IsAtCell l.sizes l.util l.k l.values;
}
