use Rattle.pseudotree.proofs.ShortLaws.{short_paths, no_split}
use Rattle.pseudotree.proofs.check.tree_on.Goals as goal

pub tree_of-requires-clause-short : goal.tree_of-requires-clause-short
tree_of-requires-clause-short c = short_paths c.args.paths.items c.requires.tree

pub only_memory-requires : goal.only_memory-requires
only_memory-requires c = no_split c.args.problem.now c.args.paths.items c.requires c.in-Err.fault c.in-Err.ensures.fault
