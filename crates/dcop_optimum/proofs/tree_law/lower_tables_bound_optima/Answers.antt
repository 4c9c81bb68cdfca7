use Rattle.dcop_optimum.proofs.CertificateLaws as laws
use Rattle.dcop_optimum.proofs.tree_law.lower_tables_bound_optima.Goals as goal

pub returns : goal.returns
returns c = laws.lower_tables_bound_optima
