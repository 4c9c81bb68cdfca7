use Rattle.std.proofs.Common.{◌≡◌, ◌∷◌, take}
use Rattle.bucket_bounds.proofs.joining.with_first.Given as goal

abbrev pub invariant-loop-var : goal.invariant-loop-var
invariant-loop-var l = l.vars ≡ l.fn.first ∷ take l.var-index l.others
