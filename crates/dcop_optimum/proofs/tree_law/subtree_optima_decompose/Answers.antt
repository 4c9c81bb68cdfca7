use Rattle.dcop_optimum.proofs.DecompositionLaws as laws
use Rattle.dcop_optimum.proofs.tree_law.subtree_optima_decompose.Goals as goal

pub returns : goal.returns
returns c = laws.decomposition_law
