-- The goal of a file: the problem that is solved, the best sum, and how far a sum is from another.
use Rattle.std.specs.Prelude.{ℕ, ◌+◌, ◌≤◌}
use Rattle.dcop_base.specs.Problem.{Dcop}
use Rattle.dcop_optimum.specs.Optimum.{IsOptimum}
use Rattle.dcop_optimum.specs.Goal.{turned, IsGreatestSum}
use Rattle.problem_text.specs.File.{TextFile}
use Rattle.problem_text.specs.declared.file.Goal.{Goal}
use Rattle.problem_text.specs.declared.file.Goal.TheVariants.{Min, Max}

-- the problem that is solved: for goal max the turned problem, and the problem itself otherwise
abbrev pub solved : Goal → Dcop → Dcop
solved Min p = p
solved Max p = turned p

-- the problem that is solved for a file
abbrev pub problem_solved : TextFile → Dcop
problem_solved f = solved f.goal f.problem

-- the best sum of any assignment: the least, or for goal max the greatest
abbrev pub IsBestSum : Goal → Dcop → ℕ → Type 0
IsBestSum Min p sum = IsOptimum p sum
IsBestSum Max p sum = IsGreatestSum p sum

-- a sum is worse than another by at most `error`: greater for goal min, and less for goal max
abbrev pub IsAtMostWorse : Goal → ℕ → ℕ → ℕ → Type 0
IsAtMostWorse Min error sum best = sum ≤ best + error
IsAtMostWorse Max error sum best = best ≤ sum + error
