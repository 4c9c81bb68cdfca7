use Rattle.std.proofs.Common.{◌≡◌, ℕ, ◌<◌, true, Some}
use Rattle.dcop_base.specs.Graph.{are_neighbours}
use Rattle.pseudotree.specs.Tree.{parent_of}
use Rattle.test_runs.proofs.runs.see_links.Given as goal

abbrev pub invariant-loop-index : goal.invariant-loop-index
invariant-loop-index g l = (v u : ℕ) → v < l.index → parent_of l.fn.tree.paths v ≡ Some u → are_neighbours l.fn.problem v u ≡ true
