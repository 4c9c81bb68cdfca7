use Rattle.worker_laws.proofs.StampCountLaws as found
use Rattle.worker_laws.proofs.workers.stamps_are_few.Goals as goal

pub returns : goal.returns
returns c = found.stamps_are_few
