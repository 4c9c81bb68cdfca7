use Rattle.dcop_optimum.proofs.SeparatorLaws as laws
use Rattle.dcop_optimum.proofs.tree_law.separators_decompose.Goals as goal

pub returns : goal.returns
returns c = laws.separators_decompose
