use Rattle.std.proofs.Common.{◌≡◌, drop}
use Rattle.dfs_agent.specs.Search.{IsRunning}
use Rattle.dfs_agent.proofs.AgentLaws.{Leads}
use Rattle.dfs_agent.proofs.agent.TokenAgent.handle_all.Given as goal

abbrev pub invariant-loop-letter : goal.invariant-loop-letter
invariant-loop-letter l =
    Leads l.fn.self l.letters l.self l.parcels.items (drop l.letter-index l.letters) × IsRunning l.self × (l.self.own ≡ l.fn.self.own)
