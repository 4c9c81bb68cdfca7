use Rattle.std.proofs.Common.{◌≡◌, length, map, take}
use Rattle.std.specs.List.{slice_index}
use Rattle.pseudotree.proofs.agent_place.write_sizes.Given as goal

abbrev pub invariant-loop-k : goal.invariant-loop-k
invariant-loop-k l = (length l.list ≡ length l.vars) × (take l.k l.list ≡ map (slice_index l.sizes) (take l.k l.vars))
