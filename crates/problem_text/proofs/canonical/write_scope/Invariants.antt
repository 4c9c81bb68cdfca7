use Rattle.std.proofs.Common.{◌≡◌, ◌∷◌, [], ◌++◌, take}
use Rattle.std.specs.List.{flat_map, slice_index_or}
use Rattle.std.specs.String.{string_bytes}
use Rattle.problem_text.proofs.canonical.write_scope.Given as goal

abbrev pub invariant-loop-var : goal.invariant-loop-var
invariant-loop-var l = string_bytes l.text ≡ string_bytes l.fn.text ++ flat_map (λ v. 32 ∷ slice_index_or l.names v []) (take l.var-index l.scope)
