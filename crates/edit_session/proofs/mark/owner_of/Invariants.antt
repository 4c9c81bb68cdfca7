use Rattle.std.proofs.Common.{◌≡◌, ◌<◌, length, drop, get_or}
use Rattle.pseudotree.specs.Owner.{deepest}
use Rattle.edit_session.proofs.mark.owner_of.Given as goal

abbrev pub invariant-loop-var : goal.invariant-loop-var
invariant-loop-var l = (l.owner < length l.tree.paths) × (deepest l.tree.paths l.owner (drop l.var-index l.scope) ≡ deepest l.tree.paths (get_or l.scope 0 0) l.scope)
