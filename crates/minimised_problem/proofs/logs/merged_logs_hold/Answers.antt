use Rattle.minimised_problem.proofs.HoldsLaws as found
use Rattle.minimised_problem.proofs.logs.merged_logs_hold.Goals as goal

pub returns : goal.returns
returns c = found.merged_logs_hold c.token_runs.ensures c.adopt_bounds_enclose.ensures c.adopt_ends.ensures c.merged_stamps_are_right.ensures
