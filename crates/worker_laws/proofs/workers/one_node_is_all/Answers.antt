use Rattle.worker_laws.proofs.NodeLaws as found
use Rattle.worker_laws.proofs.workers.one_node_is_all.Goals as goal

pub returns : goal.returns
returns c = found.one_node_is_all
