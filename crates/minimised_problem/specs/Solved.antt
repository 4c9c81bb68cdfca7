-- The problem that a value of the code holds.
use Rattle.dcop_base.specs.Problem.{Dcop}
use Rattle.minimised_problem.specs.declared.solved.ProblemSolved.{ProblemSolved}
use Rattle.minimised_problem.specs.declared.solved.ProblemSolved.TheVariants.{Own, Turned}

-- the problem that is solved
abbrev pub problem_in : ProblemSolved → Dcop
problem_in (Own p) = p.now
problem_in (Turned p) = p
