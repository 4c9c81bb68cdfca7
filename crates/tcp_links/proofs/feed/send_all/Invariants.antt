use Rattle.std.proofs.Common.{◌≡◌, ◌++◌, take}
use Rattle.fifo_links.specs.Link.{sent_on, SameTail}
use Rattle.tcp_links.proofs.feed.send_all.Given as goal

abbrev pub invariant-loop-envelope : goal.invariant-loop-envelope
invariant-loop-envelope l = record {
  end : SameTail l.initial.inner l.inner;
  sent : sent_on l.inner ≡ sent_on l.initial.inner ++ take l.envelope-index l.arrived;
}
