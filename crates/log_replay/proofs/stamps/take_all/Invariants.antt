use Rattle.std.proofs.Common.{◌≡◌, drop, length, max}
use Rattle.std.specs.List.{fold}
use Rattle.log_replay.specs.Queues.{take_off, greatest_by}
use Rattle.log_replay.proofs.stamps.take_all.Given as goal

abbrev pub invariant-loop-next : goal.invariant-loop-next
invariant-loop-next l = record {
  greatest : max l.greatest (greatest_by l.agent l.rows (drop l.next-index l.takes)) ≡ greatest_by l.agent l.initial.rows l.takes;
  rest : fold (take_off l.agent) l.rows (drop l.next-index l.takes) ≡ fold (take_off l.agent) l.initial.rows l.takes;
  size : length l.rows ≡ length l.initial.rows;
}
