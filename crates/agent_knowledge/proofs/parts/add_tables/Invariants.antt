use Rattle.std.proofs.Common.{◌≡◌, ◌≤◌, ℕ, length, slice_index_or}
use Rattle.agent_knowledge.proofs.PartLaws.{HaveTables}
use Rattle.agent_knowledge.proofs.parts.add_tables.Given as goal

abbrev pub invariant-loop-me : goal.invariant-loop-me
invariant-loop-me l = record {
  have : HaveTables l.problem l.me l.known;
  size : length l.rows.items ≡ length l.initial.rows.items;
  rest : (k : ℕ) (d : _) → l.me ≤ k → slice_index_or l.rows.items k d ≡ slice_index_or l.initial.rows.items k d;
}
