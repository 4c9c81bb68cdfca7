use Rattle.std.proofs.Common.{ℕ, ◌<◌}
use Rattle.pseudotree.specs.Splits.{NoneApartFrom}
use Rattle.pseudotree.proofs.ancestry.first_apart.Given as goal

abbrev pub invariant-loop-index : goal.invariant-loop-index
invariant-loop-index l = (u : ℕ) → u < l.index → NoneApartFrom l.paths l.marks u
