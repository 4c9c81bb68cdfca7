use Rattle.std.proofs.Common.{◌≡◌, ℕ, ◌<◌, length}
use Rattle.pseudotree.specs.Tree.{path_of}
use Rattle.pseudotree.specs.Climb.{LeadsTo}
use Rattle.pseudotree.proofs.climb.paths_of.Given as goal

abbrev pub invariant-loop-index : goal.invariant-loop-index
invariant-loop-index l = (length l.paths.items ≡ l.index) × ((v : ℕ) → v < l.index → LeadsTo l.parents v (path_of l.paths.items v))
