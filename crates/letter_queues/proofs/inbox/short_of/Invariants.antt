use Rattle.std.proofs.Common.{◌≡◌, drop}
use Rattle.letter_queues.specs.Inboxes.{short_in}
use Rattle.letter_queues.proofs.inbox.short_of.Given as goal

abbrev pub invariant-loop-take : goal.invariant-loop-take
invariant-loop-take l = short_in l.links l.takes ≡ short_in l.links (drop l.take-index l.takes)
