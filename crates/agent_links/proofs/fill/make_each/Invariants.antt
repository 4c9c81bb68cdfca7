use Rattle.std.proofs.Common.{◌≡◌, ◌<◌, ℕ, Ok, length, slice_index_or}
use Rattle.agent_links.proofs.fill.make_each.Given as goal

abbrev pub invariant-loop-item : goal.invariant-loop-item
invariant-loop-item g l = record {
  callable : goal.F-IsAlwaysCallable g l.make;
  size : length l.made.items ≡ length l.yielded;
  each : (k : ℕ) (s : _) (t : _) → k < length l.yielded → goal.F-post g l.make (slice_index_or l.yielded k s) (Ok (slice_index_or l.made.items k t));
}
