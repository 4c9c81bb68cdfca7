use Rattle.std.proofs.Common.{◌≡◌, map, take}
use Rattle.pseudotree.specs.Pseudotree.{separator_at}
use Rattle.solve_methods.specs.Tree.{row_with}
use Rattle.solve_methods.proofs.tree.node_rows.Given as goal

abbrev pub invariant-loop-var : goal.invariant-loop-var
invariant-loop-var l = l.rows.items ≡ map (row_with (separator_at l.tree) l.tree.paths) (take l.var-index l.vars)
