use Rattle.fifo_links.specs.Link.{SameTail}
use Rattle.test_codes.proofs.links.sends_up_to.Given as goal

abbrev pub invariant-loop-item : goal.invariant-loop-item
invariant-loop-item l = SameTail l.initial.tail l.tail
