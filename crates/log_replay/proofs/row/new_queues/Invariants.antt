use Rattle.std.proofs.Common.{◌≡◌, map, take}
use Rattle.log_replay.specs.Queues.{new_queue}
use Rattle.log_replay.proofs.row.new_queues.Given as goal

abbrev pub invariant-loop-to : goal.invariant-loop-to
invariant-loop-to l = l.queues.items ≡ map new_queue (take l.to-index l.receivers)
