use Rattle.worker_laws.proofs.RunLaws as found
use Rattle.worker_laws.proofs.nodes.played_nodes_make_runs.Goals as goal

pub returns : goal.returns
returns c = found.played_nodes_make_runs
