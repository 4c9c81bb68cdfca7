use Rattle.std.proofs.Common.{◌≡◌}
use Rattle.std.specs.List.{fold}
use Rattle.letter_queues.specs.Inboxes.{senders, keep_last}
use Rattle.letter_queues.proofs.inbox.keep_all.Given as goal

abbrev pub invariant-loop-letter : goal.invariant-loop-letter
invariant-loop-letter l = record {
  kept : l.links ≡ fold keep_last l.initial.links l.yielded;
  senders : senders l.links ≡ senders l.initial.links;
}
