-- Problems in whose tree nothing is too wide for DPOP.
use Rattle.std.specs.Prelude.{◌≡◌, None}
use Rattle.dcop_base.specs.Whole.{IsProblem}
use Rattle.problem_text.specs.Declarations.{Declared}
use Rattle.problem_text.specs.File.{TextFile}
use Rattle.problem_text.specs.Steps.{declared_by}
use Rattle.minimised_problem.specs.Goal.{solved}
use Rattle.solve_methods.specs.Dpop.{wide_in}

-- a text that declares this is a file, and the depth-first tree of its problem solved is narrow and
-- light, so that nothing is too wide
pub record HasFitTree (d : Declared) : Type 0 where
  pub file : TextFile
  pub whole : IsProblem file.problem
  pub declared : declared_by file ≡ d
  pub fits : wide_in (solved file.goal file.problem) ≡ None
