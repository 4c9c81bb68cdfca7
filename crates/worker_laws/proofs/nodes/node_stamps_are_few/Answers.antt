use Rattle.worker_laws.proofs.StampLaws as found
use Rattle.worker_laws.proofs.nodes.node_stamps_are_few.Goals as goal

pub returns : goal.returns
returns c = found.node_stamps_are_few
