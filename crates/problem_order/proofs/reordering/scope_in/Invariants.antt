use Rattle.std.proofs.Common.{◌≡◌, map, take}
use Rattle.std.specs.List.{slice_index}
use Rattle.problem_order.proofs.reordering.scope_in.Given as goal

abbrev pub invariant-loop-var : goal.invariant-loop-var
invariant-loop-var l = l.new.items ≡ map (slice_index l.places) (take l.var-index l.scope)
