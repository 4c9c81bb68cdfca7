use Rattle.worker_laws.proofs.PlayedLaws as found
use Rattle.worker_laws.proofs.workers.played_cells_make_runs.Goals as goal

pub returns : goal.returns
returns c = found.played_cells_make_runs
