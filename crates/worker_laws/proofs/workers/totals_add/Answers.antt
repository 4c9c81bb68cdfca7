use Rattle.worker_laws.proofs.VisitLaws as found
use Rattle.worker_laws.proofs.workers.totals_add.Goals as goal

pub returns : goal.returns
returns c = found.totals_add
