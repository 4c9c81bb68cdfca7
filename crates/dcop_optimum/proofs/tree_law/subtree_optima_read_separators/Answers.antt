use Rattle.dcop_optimum.proofs.DecompositionLaws as laws
use Rattle.dcop_optimum.proofs.tree_law.subtree_optima_read_separators.Goals as goal

pub returns : goal.returns
returns c = laws.subtree_optima_read_separators
