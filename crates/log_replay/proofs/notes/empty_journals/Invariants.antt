use Rattle.std.proofs.Common.{◌≡◌, [], replicate}
use Rattle.log_replay.proofs.notes.empty_journals.Given as goal

abbrev pub invariant-loop : goal.invariant-loop
invariant-loop l = l.journals.items ≡ replicate l.counter []
