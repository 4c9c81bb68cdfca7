use Rattle.std.proofs.Common.{◌≡◌, map, length}
use Rattle.std.specs.List.{range_with_len}
use Rattle.delivery_core.specs.Starts.{agent_of, new_seat}
use Rattle.delivery_core.proofs.start.make.Given as goal

abbrev pub invariant-loop-own : goal.invariant-loop-own
invariant-loop-own l = l.seats.items ≡ map new_seat (map (agent_of l.problem l.start) (range_with_len 0 (length l.yielded)))
