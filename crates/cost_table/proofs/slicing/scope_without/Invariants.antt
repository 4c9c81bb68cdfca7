use Rattle.std.proofs.Common.{◌≡◌, ◌++◌, take}
use Rattle.cost_table.proofs.slicing.scope_without.Given as goal

abbrev pub invariant-loop-var : goal.invariant-loop-var
invariant-loop-var l = l.rest ≡ take l.place l.scope ++ take l.var-index l.behind
