use Rattle.std.proofs.Common.{◌≡◌, ℕ, ◌<◌, length}
use Rattle.std.specs.List.{slice_index}
use Rattle.problem_order.proofs.order.leads_back.Given as goal

abbrev pub invariant-loop-index : goal.invariant-loop-index
invariant-loop-index l = (k : ℕ) → k < l.index → (slice_index l.one k < length l.other) × (slice_index l.other (slice_index l.one k) ≡ k)
