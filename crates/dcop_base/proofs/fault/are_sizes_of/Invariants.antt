use Rattle.std.proofs.Common.{◌≡◌, map, get_or, drop, nat_eq}
use Rattle.std.specs.Cmp.Lexicographic.{pointwise}
use Rattle.dcop_base.proofs.fault.are_sizes_of.Given as goal

abbrev pub invariant-loop-k : goal.invariant-loop-k
invariant-loop-k l = pointwise nat_eq (drop l.k l.own) (map (λ v. get_or l.sizes v 0) (drop l.k l.scope)) ≡ pointwise nat_eq l.own (map (λ v. get_or l.sizes v 0) l.scope)
