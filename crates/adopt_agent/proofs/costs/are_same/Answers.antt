use Rattle.std.proofs.Common.{sym, ◌∙◌}
use Rattle.adopt_agent.proofs.BoundLaws.{pairs_same}
use Rattle.adopt_agent.proofs.costs.are_same.Goals as goal

pub returns : goal.returns
returns c = λ is. pairs_same c.args.pairs.now c.args.others.now (sym c.eq.ensures ∙ is)
