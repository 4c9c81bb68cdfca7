use Rattle.minimised_problem.proofs.DifferenceLaws as found
use Rattle.minimised_problem.proofs.logs.differences_are_exact.Goals as goal

pub returns : goal.returns
returns c = found.differences_are_exact c.token_runs.ensures c.adopt_bounds_enclose.ensures
