use Rattle.minimised_problem.proofs.MadeLaws.{are_utils}
use Rattle.minimised_problem.proofs.utils.utils_of.Goals as goal

pub returns : goal.returns
returns c = λ p is made. are_utils p c.args.tree.now c.args.tables.now is made c.utils_with.result c.utils_with.ensures
