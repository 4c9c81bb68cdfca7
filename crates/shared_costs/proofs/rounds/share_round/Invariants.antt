use Rattle.shared_costs.specs.Sharing.{IsSharing}
use Rattle.shared_costs.proofs.rounds.share_round.Given as goal

abbrev pub invariant-loop-var : goal.invariant-loop-var
invariant-loop-var l = IsSharing l.sizes l.fn.tables l.tables
