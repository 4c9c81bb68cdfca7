use Rattle.std.proofs.Common.{◌≡◌, ℕ, ◌<◌, ◌≤◌, length, take, slice_index}
use Rattle.dcop_base.specs.Labels.{AreLabels}
use Rattle.dcop_base.proofs.joint.join_tables.Given as goal

abbrev pub invariant-loop-table : goal.invariant-loop-table
invariant-loop-table l = (AreLabels (take l.table-index l.tables) l.labels) × (l.named ≤ length l.labels) × ((v : ℕ) → l.named ≤ v → v < length l.labels → slice_index l.labels v ≡ v)
