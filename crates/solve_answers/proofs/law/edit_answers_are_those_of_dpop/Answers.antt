use Rattle.solve_answers.proofs.OneLaws.{edit_answers_dpop}
use Rattle.solve_answers.proofs.law.edit_answers_are_those_of_dpop.Goals as goal

pub returns : goal.returns
returns c = edit_answers_dpop c.first_optima_of_trees_are_one.ensures c.depth_first_trees_are_linked.ensures
