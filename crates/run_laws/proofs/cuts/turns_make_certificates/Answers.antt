use Rattle.run_laws.proofs.CertificateLaws as laws
use Rattle.run_laws.proofs.cuts.turns_make_certificates.Goals as goal

pub returns : goal.returns
returns c = laws.turns_make_certificates
