use Rattle.std.proofs.Common.{◌≡◌, map, take}
use Rattle.pseudotree.specs.Pseudotree.{separator_at}
use Rattle.minimised_problem.specs.Utils.{util_with}
use Rattle.minimised_problem.proofs.utils.utils_with.Given as goal

abbrev pub invariant-loop-var : goal.invariant-loop-var
invariant-loop-var l = l.utils.items ≡ map (util_with (separator_at l.tree) l.tree.paths l.tables) (take l.var-index l.vars)
