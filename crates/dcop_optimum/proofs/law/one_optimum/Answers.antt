use Rattle.dcop_optimum.proofs.OptimumLaws.{some_optimum, optimum_same}
use Rattle.dcop_optimum.proofs.law.one_optimum.Goals as goal

pub returns-clause-some : goal.returns-clause-some
returns-clause-some c = some_optimum c.args.problem.now c.problem_is_whole.ensures

pub returns-clause-one : goal.returns-clause-one
returns-clause-one c = optimum_same c.args.problem.now
