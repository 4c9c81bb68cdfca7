use Rattle.std.proofs.Common.{◌≡◌, map, take}
use Rattle.pseudotree.specs.Tree.{children_of}
use Rattle.minimised_problem.specs.Told.{told}
use Rattle.certificate_check.proofs.parts.child_tables.Given as goal

abbrev pub invariant-loop-child : goal.invariant-loop-child
invariant-loop-child l = map (λ u. u.now) l.children.items ≡ map (told l.utils) (take l.child-index (children_of l.tree.paths l.fn.var))
