use Rattle.solve_cut.proofs.AllowedLaws.{allowed-solved}
use Rattle.solve_cut.proofs.law.allowed_cuts_are_solved.Goals as goal

pub returns : goal.returns
returns c = allowed-solved c.cut_sets_are_one.ensures c.depth_first_trees_are_linked.ensures
