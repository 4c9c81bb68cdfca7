-- Optimal values of the problem solved have the best sum.
use Rattle.std.proofs.Common.{◌≡◌, ℕ, ◌-◌, ◌≤◌, List, Result, Ok, Err, subst, arith}
use Rattle.dcop_base.specs.Limits.{assignment_limit}
use Rattle.dcop_base.specs.Problem.{Dcop, IsAssignment, cost}
use Rattle.dcop_base.specs.Whole.{IsProblem}
use Rattle.dcop_base.specs.Table.{product}
use Rattle.dcop_optimum.specs.Optimum.{IsOptimum}
use Rattle.dcop_optimum.specs.Goal.{turned, top_of, IsGreatestSum}
use Rattle.dcop_optimum.specs.declared.plain.PlainFault.{PlainFault}
use Rattle.dcop_optimum.specs.declared.plain.PlainFault.TheVariants.{TooMany, NoMemory}
use Rattle.dcop_optimum.proofs.TurnLaws.{sum_to_top, tells_greatest}
use Rattle.problem_text.specs.File.{TextFile}
use Rattle.problem_text.specs.declared.file.Goal.{Goal}
use Rattle.problem_text.specs.declared.file.Goal.TheVariants.{Min, Max}
use Rattle.minimised_problem.specs.Goal.{solved, IsBestSum}
use Rattle.minimised_problem.proofs.SolvedLaws.{solved_sizes}
use Rattle.solve_methods.specs.Plain.{IsTooMany, GivesFirst, GivesBest}

-- optimal values of the turned problem cost the greatest sum in the problem
greatest_of_turned : (p : Dcop) → IsProblem p → (values : List ℕ) → IsAssignment (turned p) values → IsOptimum (turned p) (cost (turned p) values) → IsGreatestSum p (cost p values)
greatest_of_turned p whole values within optimal =
    let sum = sum_to_top p whole values within in
    let left : top_of p - cost (turned p) values ≡ cost p values = omega arith in
    subst (IsGreatestSum p) left (tells_greatest p whole (cost (turned p) values) optimal)

pub best_of : (goal : Goal) (p : Dcop) → IsProblem p → (values : List ℕ) → IsAssignment (solved goal p) values → IsOptimum (solved goal p) (cost (solved goal p) values)
    → IsAssignment p values × IsBestSum goal p (cost p values)
best_of Min p whole values within optimal = (within, optimal)
best_of Max p whole values within optimal = (within, greatest_of_turned p whole values within optimal)

-- so has the first optimum that the plain method gives
pub best_first : (file : TextFile) → IsProblem file.problem → (result : Result (List ℕ) PlainFault) → GivesFirst (solved file.goal file.problem) result → GivesBest file result
best_first file whole (Ok values) is = record {
  few = subst (λ (sizes : List ℕ). product sizes ≤ assignment_limit) (solved_sizes file.goal file.problem) is.0;
  first = is.1;
  best = (best_of file.goal file.problem whole values is.1.assignment is.1.optimal).1;
}
best_first file whole (Err (TooMany assignments)) is = subst (λ (sizes : List ℕ). IsTooMany (product sizes) assignments) (solved_sizes file.goal file.problem) is
best_first file whole (Err NoMemory) is = tt
