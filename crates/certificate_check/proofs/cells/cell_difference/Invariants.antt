use Rattle.std.proofs.Common.{◌≡◌, None, get_or}
use Rattle.std.specs.List.{range_with_len}
use Rattle.certificate_check.specs.Odometer.{IsAtCell}
use Rattle.certificate_check.specs.Differences.{first_of, value_difference}
use Rattle.certificate_check.proofs.PartLaws.{targets}
use Rattle.certificate_check.proofs.cells.cell_difference.Given as goal

abbrev pub invariant-loop-value : goal.invariant-loop-value
invariant-loop-value l = record {
  variable : l.var ≡ l.fn.util.var;
  cell : l.left ≡ get_or l.fn.util.cells l.k 0;
  none : first_of (value_difference l.sizes (targets l.own) (targets l.children) l.util l.k) (range_with_len 0 l.value) ≡ None;
  at : IsAtCell l.sizes l.util l.k l.values;
}
