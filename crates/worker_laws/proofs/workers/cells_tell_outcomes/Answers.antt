use Rattle.worker_laws.proofs.EndLaws as found
use Rattle.worker_laws.proofs.workers.cells_tell_outcomes.Goals as goal

pub returns : goal.returns
returns c = found.cells_tell_outcomes
