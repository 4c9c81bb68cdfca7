use Rattle.std.proofs.Common.{◌≡◌, ◌++◌, replicate}
use Rattle.log_replay.proofs.queue.Queue.fill.Given as goal

abbrev pub invariant-loop : goal.invariant-loop
invariant-loop l = record {
  stamps : l.self-inside.stamps.items ≡ l.fn.self.stamps ++ replicate l.counter l.stamp;
  to : l.self-inside.to ≡ l.fn.self.to;
}
