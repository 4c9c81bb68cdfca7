use Rattle.shared_costs.specs.Sharing.{IsSharing}
use Rattle.shared_costs.proofs.rounds.share_all.Given as goal

abbrev pub invariant-loop-round : goal.invariant-loop-round
invariant-loop-round l = IsSharing l.sizes l.fn.tables l.tables
