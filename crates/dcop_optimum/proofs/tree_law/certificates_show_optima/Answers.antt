use Rattle.dcop_optimum.proofs.CertificateLaws as laws
use Rattle.dcop_optimum.proofs.tree_law.certificates_show_optima.Goals as goal

pub returns : goal.returns
returns c = laws.certificates_show_optima
