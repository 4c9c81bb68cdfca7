use Rattle.worker_laws.proofs.MergeLaws as found
use Rattle.worker_laws.proofs.workers.journals_merge.Goals as goal

pub returns : goal.returns
returns c = found.journals_merge
