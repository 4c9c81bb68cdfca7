use Rattle.worker_laws.proofs.LinkLaws as found
use Rattle.worker_laws.proofs.nodes.links_are_exchanged.Goals as goal

pub returns : goal.returns
returns c = found.links_are_exchanged
