use Rattle.std.proofs.Common.{◌≡◌, ℕ, ◌≤◌, length, Some, slice_get}
use Rattle.worker_laws.specs.Wires.{Wire}
use Rattle.link_records.specs.Differences.{IsLowerLink}
use Rattle.link_records.specs.Left.{fresh_link}
use Rattle.tcp_links.proofs.plan.place_of.Given as goal

abbrev pub invariant-loop-place : goal.invariant-loop-place
invariant-loop-place l = record {
  inside : l.place ≤ length l.kept;
  above : (k : ℕ) (w : Wire) → slice_get l.kept k ≡ Some w → l.place ≤ k → IsLowerLink (fresh_link l.from l.to) w;
}

-- proposed from the loop's first test
abbrev pub decreases-loop-place : goal.decreases-loop-place
decreases-loop-place l = l.place
