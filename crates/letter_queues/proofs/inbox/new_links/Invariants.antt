use Rattle.std.proofs.Common.{◌≡◌, map, take}
use Rattle.letter_queues.specs.Links.{new_link}
use Rattle.letter_queues.proofs.inbox.new_links.Given as goal

abbrev pub invariant-loop-from : goal.invariant-loop-from
invariant-loop-from l = l.links.items ≡ map new_link (take l.from-index l.senders)
