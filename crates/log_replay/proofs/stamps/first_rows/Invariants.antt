use Rattle.std.proofs.Common.{◌≡◌, map}
use Rattle.std.specs.List.{range_with_len}
use Rattle.log_replay.specs.Queues.{first_row}
use Rattle.log_replay.proofs.stamps.first_rows.Given as goal

abbrev pub invariant-loop-me : goal.invariant-loop-me
invariant-loop-me l = l.rows.items ≡ map (first_row l.problem l.core) (range_with_len 0 l.me)
