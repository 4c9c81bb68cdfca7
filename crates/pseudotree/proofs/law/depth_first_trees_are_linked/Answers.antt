use Rattle.pseudotree.proofs.SearchLaws as found
use Rattle.pseudotree.proofs.law.depth_first_trees_are_linked.Goals as goal

pub returns : goal.returns
returns c = found.depth_first_trees_are_linked
