use Rattle.std.proofs.Common.{◌≡◌, take}
use Rattle.link_records.proofs.place.place_of.Given as goal

abbrev pub invariant-loop-place : goal.invariant-loop-place
invariant-loop-place l = take l.place l.arrived ≡ take l.place l.drained
