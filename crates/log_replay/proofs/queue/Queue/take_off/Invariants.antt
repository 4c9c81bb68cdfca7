use Rattle.std.proofs.Common.{◌≡◌, take, drop, max}
use Rattle.std.specs.List.{fold}
use Rattle.log_replay.proofs.queue.Queue.take_off.Given as goal

abbrev pub invariant-loop : goal.invariant-loop
invariant-loop l = record {
  greatest : l.greatest ≡ fold max 0 (take l.counter l.fn.self.stamps);
  rest : l.self-inside.stamps.items ≡ drop l.counter l.fn.self.stamps;
  to : l.self-inside.to ≡ l.fn.self.to;
}
