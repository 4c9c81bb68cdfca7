use Rattle.std.proofs.Common.{◌≡◌, ◌++◌, [], ◌∷◌, take}
use Rattle.cost_table.proofs.cut.one_at.Given as goal

abbrev pub invariant-loop-size : goal.invariant-loop-size
invariant-loop-size l = l.less ≡ (take l.place l.sizes ++ 1 ∷ []) ++ take l.size-index l.behind
