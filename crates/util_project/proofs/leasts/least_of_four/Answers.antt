use Rattle.std.proofs.Common.{ℕ, get_or, arith}
use Rattle.util_project.proofs.LaneLeasts.{least-of-four}
use Rattle.util_project.proofs.leasts.least_of_four.Goals as goal

pub returns : goal.returns
returns c = least-of-four (λ (j : ℕ). get_or c.args.cells j 0) c.min-3.result (omega (arith, c.min-3.ensures, c.min-2.ensures, c.min.ensures))
