use Rattle.std.proofs.Common.{ℕ, ◌<◌, ◌≤◌, ◌-◌, length}
use Rattle.pseudotree.specs.Splits.{AreApart}
use Rattle.pseudotree.proofs.ancestry.first_apart_from.Given as goal

abbrev pub invariant-loop-index : goal.invariant-loop-index
invariant-loop-index l = (l.one < l.begin) × (l.begin ≤ length l.paths) × ((v : ℕ) → v < l.begin → ¬ AreApart l.paths l.marks l.one v)

abbrev pub decreases-loop-index : goal.decreases-loop-index
decreases-loop-index l = length l.paths - l.begin
