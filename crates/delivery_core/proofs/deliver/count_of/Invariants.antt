use Rattle.std.proofs.Common.{◌≡◌, take, min}
use Rattle.std.specs.List.{sum_by}
use Rattle.delivery_core.specs.NetworkState.{most_counted}
use Rattle.delivery_core.proofs.deliver.count_of.Given as goal

abbrev pub invariant-loop-take : goal.invariant-loop-take
invariant-loop-take l = l.total ≡ min (sum_by (λ t. t.count) (take l.take-index l.takes)) most_counted
