use Rattle.std.proofs.Common.{take}
use Rattle.std.specs.List.{All}
use Rattle.bucket_bounds.specs.Parting.{IsTooWideFor}
use Rattle.bucket_bounds.proofs.group.place_of.Given as goal

abbrev pub invariant-loop-place : goal.invariant-loop-place
invariant-loop-place l = All (IsTooWideFor l.sizes l.scope l.limit) (take l.place l.groups)
