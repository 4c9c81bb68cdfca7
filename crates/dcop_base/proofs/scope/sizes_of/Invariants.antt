use Rattle.std.proofs.Common.{◌≡◌, map, get_or, take}
use Rattle.dcop_base.proofs.scope.sizes_of.Given as goal

abbrev pub invariant-loop-var : goal.invariant-loop-var
invariant-loop-var l = l.own ≡ map (λ v. get_or l.sizes v 0) (take l.var-index l.vars)
