use Rattle.std.proofs.Common.{◌+◌, ◌-◌, ◌≤◌, drop, length, slice_index}
use Rattle.std.specs.List.{sum}
use Rattle.dcop_base.specs.Table.{AreWithin}
use Rattle.shared_costs.specs.Values.{AgreeBelow}
use Rattle.bound_search.specs.Descent.{IsStanding}
use Rattle.bound_search.proofs.DescentLaws.{IsVisiting}
use Rattle.bound_search.proofs.TreeLaws.{to_visit}
use Rattle.bound_search.proofs.VisitLaws.{IsTurned}
use Rattle.bound_search.proofs.descent.+descend.Given as goal

abbrev pub decreases-descend : goal.decreases-descend
decreases-descend l = length l.sizes.now - l.depth

abbrev pub decreases-visits : goal.decreases-visits
decreases-visits l = to_visit l.row

abbrev pub invariant-visits : goal.invariant-visits
invariant-visits l = record {
  within : AreWithin l.sizes l.values;
  same : AgreeBelow l.depth (slice_index l.fn.values) (slice_index l.values);
  standing : IsStanding l.sizes l.buckets l.rules l.found l.progress;
  visiting : IsVisiting l.sizes l.buckets l.rules l.depth l.least (slice_index l.fn.values) l.row l.fn.progress l.progress;
  turned : IsTurned l.sizes l.buckets l.rules l.depth (slice_index l.fn.values) l.row l.fn.progress l.progress;
  rest : sum (drop (l.depth + 1) l.sizes) ≤ length l.rest;
}
