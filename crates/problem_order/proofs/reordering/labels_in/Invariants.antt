use Rattle.std.proofs.Common.{◌≡◌, map, take, []}
use Rattle.std.specs.List.{slice_index_or}
use Rattle.problem_order.proofs.reordering.labels_in.Given as goal

abbrev pub invariant-loop-var : goal.invariant-loop-var
invariant-loop-var l = l.new.items ≡ map (λ v. slice_index_or l.labels v []) (take l.var-index l.order)
