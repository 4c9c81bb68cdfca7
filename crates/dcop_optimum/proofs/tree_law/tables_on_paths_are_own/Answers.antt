use Rattle.dcop_optimum.proofs.CertificateLaws as laws
use Rattle.dcop_optimum.proofs.tree_law.tables_on_paths_are_own.Goals as goal

pub returns : goal.returns
returns c = laws.tables_on_paths_are_own
