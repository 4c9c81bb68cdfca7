use Rattle.std.proofs.Common.{◌≡◌, ◌++◌, drop}
use Rattle.letter_queues.specs.Takes.{inbox_takes}
use Rattle.letter_queues.proofs.inbox.list_takes.Given as goal

abbrev pub invariant-loop-link : goal.invariant-loop-link
invariant-loop-link l = l.takes.items ++ inbox_takes (drop l.link-index l.links) ≡ inbox_takes l.links
