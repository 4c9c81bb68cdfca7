use Rattle.run_laws.proofs.CertificateLaws as laws
use Rattle.run_laws.proofs.cuts.cut_certificates_show_optima.Goals as goal

pub returns : goal.returns
returns c = laws.cut_certificates_show_optima
