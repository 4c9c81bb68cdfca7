use Rattle.std.proofs.Common.{◌≡◌, ◌&&◌, length, take}
use Rattle.dcop_base.specs.Table.{has}
use Rattle.agent_knowledge.specs.Rows.{Adds}
use Rattle.agent_knowledge.proofs.neighbours.add_scope.Given as goal

abbrev pub invariant-loop-me : goal.invariant-loop-me
invariant-loop-me l = record {
  added : Adds (λ u v. has (take l.me-index l.scope) u && has l.scope v) l.initial.rows l.rows;
  size : length l.rows ≡ length l.initial.rows;
}
