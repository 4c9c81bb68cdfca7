use Rattle.worker_laws.proofs.RunLaws as found
use Rattle.worker_laws.proofs.nodes.nodes_make_a_run.Goals as goal

pub returns : goal.returns
returns c = found.nodes_make_a_run
