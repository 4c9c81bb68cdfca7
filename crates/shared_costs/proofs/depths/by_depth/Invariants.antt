use Rattle.std.proofs.Common.{◌≡◌, map}
use Rattle.shared_costs.proofs.depths.by_depth.Given as goal

abbrev pub invariant-loop-list : goal.invariant-loop-list
invariant-loop-list l = l.depths.items ≡ map (λ list. list.items) l.yielded
