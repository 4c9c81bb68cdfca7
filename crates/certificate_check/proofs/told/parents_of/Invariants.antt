use Rattle.std.proofs.Common.{◌≡◌, map}
use Rattle.std.specs.List.{range_with_len}
use Rattle.minimised_problem.specs.Told.{told}
use Rattle.certificate_check.proofs.told.parents_of.Given as goal

abbrev pub invariant-loop-index : goal.invariant-loop-index
invariant-loop-index l = l.parents.items ≡ map (λ v. (told l.utils v).parent) (range_with_len 0 l.index)
