use Rattle.std.proofs.Common.{◌≡◌, ◌++◌, drop}
use Rattle.std.specs.List.{fold}
use Rattle.letter_queues.specs.Inboxes.{senders, letters_by, take_off}
use Rattle.letter_queues.proofs.inbox.gather.Given as goal

abbrev pub invariant-loop-take : goal.invariant-loop-take
invariant-loop-take l = record {
  batch : l.batch.items ++ letters_by l.links (drop l.take-index l.takes) ≡ letters_by l.initial.links l.takes;
  senders : senders l.links ≡ senders l.initial.links;
  rest : fold take_off l.links (drop l.take-index l.takes) ≡ fold take_off l.initial.links l.takes;
}
