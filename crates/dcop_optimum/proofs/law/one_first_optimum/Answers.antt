use Rattle.dcop_optimum.proofs.OptimumLaws.{some_first, first_same}
use Rattle.dcop_optimum.proofs.law.one_first_optimum.Goals as goal

pub returns-clause-some : goal.returns-clause-some
returns-clause-some c = some_first c.args.problem.now c.problem_is_whole.ensures

pub returns-clause-one : goal.returns-clause-one
returns-clause-one c = first_same c.args.problem.now
