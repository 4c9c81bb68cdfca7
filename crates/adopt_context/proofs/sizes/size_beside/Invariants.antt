use Rattle.std.proofs.Common.{◌≡◌, drop}
use Rattle.std.specs.List.{zip}
use Rattle.adopt_context.specs.Context.{value_in}
use Rattle.adopt_context.proofs.sizes.size_beside.Given as goal

abbrev pub invariant-loop-k : goal.invariant-loop-k
invariant-loop-k l = value_in (zip l.vars l.sizes) l.var ≡ value_in (zip (drop l.k l.vars) (drop l.k l.sizes)) l.var
