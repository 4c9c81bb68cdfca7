use Rattle.dcop_optimum.proofs.OptimumTableLaws as laws
use Rattle.dcop_optimum.proofs.tree_law.optima_make_certificates.Goals as goal

pub returns : goal.returns
returns c = laws.optima_make_certificates
