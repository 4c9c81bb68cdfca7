use Rattle.dcop_optimum.proofs.OptimumTableLaws as laws
use Rattle.dcop_optimum.proofs.tree_law.costs_are_within_cap.Goals as goal

pub returns : goal.returns
returns c = laws.costs_are_within_cap
