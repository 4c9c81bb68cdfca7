use Rattle.run_laws.proofs.DpopRunLaws as found
use Rattle.run_laws.proofs.dpop.dpop_runs.Goals as goal

pub returns : goal.returns
returns c = found.dpop_runs
