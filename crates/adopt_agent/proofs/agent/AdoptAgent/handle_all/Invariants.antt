use Rattle.std.proofs.Common.{◌≡◌, drop}
use Rattle.adopt_agent.specs.Deed.{IsSameAgent}
use Rattle.adopt_agent.proofs.AgentLaws.{handled}
use Rattle.adopt_agent.proofs.agent.AdoptAgent.handle_all.Given as goal

abbrev pub invariant-loop-letter : goal.invariant-loop-letter
invariant-loop-letter l = record {
  same : IsSameAgent l.fn.self l.self;
  leads : handled (drop l.letter-index l.letters) l.self ≡ handled l.letters l.fn.self;
}
