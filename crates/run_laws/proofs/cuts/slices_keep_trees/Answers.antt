use Rattle.run_laws.proofs.TreeLaws as laws
use Rattle.run_laws.proofs.cuts.slices_keep_trees.Goals as goal

pub returns : goal.returns
returns c = laws.slices_keep_trees
