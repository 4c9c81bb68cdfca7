use Rattle.worker_laws.proofs.CellRunLaws as found
use Rattle.worker_laws.proofs.workers.workers_make_a_run.Goals as goal

pub returns : goal.returns
returns c = found.workers_make_a_run
