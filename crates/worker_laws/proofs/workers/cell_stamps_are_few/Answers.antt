use Rattle.worker_laws.proofs.CellStampLaws as found
use Rattle.worker_laws.proofs.workers.cell_stamps_are_few.Goals as goal

pub returns : goal.returns
returns c = found.cell_stamps_are_few
