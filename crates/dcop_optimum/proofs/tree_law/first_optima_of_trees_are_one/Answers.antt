use Rattle.dcop_optimum.proofs.TreeOptimumLaws as laws
use Rattle.dcop_optimum.proofs.tree_law.first_optima_of_trees_are_one.Goals as goal

pub returns : goal.returns
returns c = laws.first_optima_of_trees_are_one
