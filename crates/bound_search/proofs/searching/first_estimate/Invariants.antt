use Rattle.std.proofs.Common.{◌≡◌, ◌+◌, drop}
use Rattle.bound_search.specs.First.{first_sum}
use Rattle.bound_search.proofs.searching.first_estimate.Given as goal

abbrev pub invariant-loop-bucket : goal.invariant-loop-bucket
invariant-loop-bucket l = l.sum + first_sum (drop l.bucket-index l.buckets) ≡ first_sum l.buckets
