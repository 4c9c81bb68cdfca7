use Rattle.std.proofs.Common.{◌≡◌, drop}
use Rattle.dpop_agent.specs.Deed.{IsRunning}
use Rattle.dpop_agent.proofs.BatchLaws.{Leads}
use Rattle.dpop_agent.proofs.agent.DpopAgent.handle_all.Given as goal

abbrev pub invariant-loop-letter : goal.invariant-loop-letter
invariant-loop-letter l =
    Leads l.fn.self l.letters l.self l.sent.items (drop l.letter-index l.letters) × IsRunning l.self
    × (l.self.own ≡ l.fn.self.own) × (l.self.place ≡ l.fn.self.place)
