use Rattle.std.proofs.Common.{◌≡◌, ◌≤◌, min, reverse}
use Rattle.std.specs.List.{All}
use Rattle.dcop_base.specs.Limits.{joined_limit}
use Rattle.bucket_bounds.specs.Parting.{IsPartedDuly}
use Rattle.bucket_bounds.proofs.StepLaws.{IsChain}
use Rattle.bucket_bounds.proofs.bounds.bounds_of.Given as goal

abbrev pub invariant-loop-place : goal.invariant-loop-place
invariant-loop-place l = IsChain l.sizes l.depths l.widest l.cells l.place (reverse l.last_first.items) l.bounds.items l.room × (l.widest ≤ joined_limit) × (l.widest ≡ min l.limit joined_limit) × All (IsPartedDuly l.sizes l.widest) (reverse l.last_first.items)

abbrev pub decreases-loop-place : goal.decreases-loop-place
decreases-loop-place l = l.place
