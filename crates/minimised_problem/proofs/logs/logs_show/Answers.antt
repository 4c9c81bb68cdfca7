use Rattle.minimised_problem.proofs.HoldsLaws as found
use Rattle.minimised_problem.proofs.logs.logs_show.Goals as goal

pub returns : goal.returns
returns c = found.logs_show c.token_runs.ensures c.adopt_bounds_enclose.ensures
