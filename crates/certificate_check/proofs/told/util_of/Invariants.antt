use Rattle.std.proofs.Common.{◌≡◌, drop}
use Rattle.std.specs.List.{count_by}
use Rattle.minimised_problem.specs.Told.{told}
use Rattle.certificate_check.proofs.ToldLaws.{names}
use Rattle.certificate_check.proofs.told.util_of.Given as goal

abbrev pub invariant-loop-util : goal.invariant-loop-util
invariant-loop-util l = record {
  same : told (drop l.util-index l.utils) l.var ≡ told l.utils l.var;
  one : count_by (names l.var) (drop l.util-index l.utils) ≡ 1;
}
