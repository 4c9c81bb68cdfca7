use Rattle.std.proofs.Common.{take}
use Rattle.worker_laws.specs.OneNode.{home}
use Rattle.tcp_links.specs.Woven.{AreLinksIdle}
use Rattle.tcp_links.proofs.idle.idle_passings.Given as goal

abbrev pub invariant-loop-link : goal.invariant-loop-link
invariant-loop-link l = AreLinksIdle (home l.nodes l.agents) (take l.link-index l.kept) l.passings.items
