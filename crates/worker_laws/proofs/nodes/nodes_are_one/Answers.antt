use Rattle.worker_laws.proofs.RunLaws as found
use Rattle.worker_laws.proofs.nodes.nodes_are_one.Goals as goal

pub returns : goal.returns
returns c = found.nodes_are_one
