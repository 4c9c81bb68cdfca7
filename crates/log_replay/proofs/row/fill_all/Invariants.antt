use Rattle.std.proofs.Common.{◌≡◌, ◌++◌, map, take, drop}
use Rattle.log_replay.specs.Queues.{filled}
use Rattle.log_replay.proofs.row.fill_all.Given as goal

abbrev pub invariant-loop-queue : goal.invariant-loop-queue
invariant-loop-queue l = l.queues ≡ map (filled l.core l.from l.stamp) (take l.queue-index l.initial.queues) ++ drop l.queue-index l.initial.queues
