use Rattle.std.proofs.Common.{◌≡◌, map, take, []}
use Rattle.std.specs.List.{slice_index_or}
use Rattle.problem_order.proofs.reordering.names_in.Given as goal

abbrev pub invariant-loop-var : goal.invariant-loop-var
invariant-loop-var l = l.new ≡ map (λ v. slice_index_or l.names v []) (take l.var-index l.order)
