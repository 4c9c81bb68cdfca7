use Rattle.dcop_optimum.proofs.DecompositionLaws as laws
use Rattle.dcop_optimum.proofs.tree_law.root_bounds_enclose_optima.Goals as goal

pub returns : goal.returns
returns c = laws.root_bounds_enclose_optima
