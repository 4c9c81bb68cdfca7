use Rattle.std.proofs.Common.{◌<◌, ◌≤◌}
use Rattle.std.specs.List.{All}
use Rattle.bucket_bounds.proofs.sharing.places_below.Given as goal

abbrev pub invariant-loop-place : goal.invariant-loop-place
invariant-loop-place l = All (λ k. k < l.count) l.places.items × (l.place-end ≤ l.count)
