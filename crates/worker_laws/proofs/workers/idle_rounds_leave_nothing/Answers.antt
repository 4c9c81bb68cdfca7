use Rattle.worker_laws.proofs.IdleLaws as found
use Rattle.worker_laws.proofs.workers.idle_rounds_leave_nothing.Goals as goal

pub returns : goal.returns
returns c = found.idle_rounds_leave_nothing
