use Rattle.std.proofs.Common.{◌≡◌, ◌≤◌, ℕ, length, map, slice_index_or}
use Rattle.std.specs.List.{range_with_len}
use Rattle.dcop_base.specs.Knowledge.{acquaintance_of}
use Rattle.agent_knowledge.proofs.parts.acquaintances.Given as goal

abbrev pub invariant-loop-me : goal.invariant-loop-me
invariant-loop-me l = record {
  known : l.known.items ≡ map (acquaintance_of l.problem) (range_with_len 0 l.me);
  size : length l.rows.items ≡ length l.initial.rows.items;
  rest : (k : ℕ) (d : _) → l.me ≤ k → slice_index_or l.rows.items k d ≡ slice_index_or l.initial.rows.items k d;
}
