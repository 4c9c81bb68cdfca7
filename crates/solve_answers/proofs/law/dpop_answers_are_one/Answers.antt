use Rattle.solve_answers.proofs.OneLaws.{dpop_answers_one}
use Rattle.solve_answers.proofs.law.dpop_answers_are_one.Goals as goal

pub returns : goal.returns
returns c = dpop_answers_one c.first_optima_of_trees_are_one.ensures c.depth_first_trees_are_linked.ensures
