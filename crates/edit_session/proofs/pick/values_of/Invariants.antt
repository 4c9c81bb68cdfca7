use Rattle.std.proofs.Common.{◌≡◌, ℕ, get_or, map, take}
use Rattle.edit_session.proofs.pick.values_of.Given as goal

abbrev pub invariant-loop-var : goal.invariant-loop-var
invariant-loop-var l = l.list.items ≡ map (λ (v : ℕ). get_or l.values v 0) (take l.var-index l.vars)
