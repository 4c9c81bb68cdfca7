-- The problem solved is a problem, of the same sizes.
use Rattle.std.proofs.Common.{◌≡◌, refl}
use Rattle.dcop_base.specs.Problem.{Dcop}
use Rattle.dcop_base.specs.Whole.{IsProblem}
use Rattle.dcop_optimum.proofs.TurnLaws.{turned_problem}
use Rattle.problem_text.specs.declared.file.Goal.{Goal}
use Rattle.problem_text.specs.declared.file.Goal.TheVariants.{Min, Max}
use Rattle.minimised_problem.specs.Goal.{solved}

pub solved_problem : (goal : Goal) (p : Dcop) → IsProblem p → IsProblem (solved goal p)
solved_problem Min p problem = problem
solved_problem Max p problem = turned_problem p problem

pub solved_sizes : (goal : Goal) (p : Dcop) → (solved goal p).sizes ≡ p.sizes
solved_sizes Min p = refl
solved_sizes Max p = refl
