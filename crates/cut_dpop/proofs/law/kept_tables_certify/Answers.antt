use Rattle.cut_dpop.proofs.CertificateLaws.{end-certified}
use Rattle.cut_dpop.proofs.law.kept_tables_certify.Goals as goal

pub returns : goal.returns
returns c = end-certified c.cut_sets_are_one.ensures c.cut_answers_are_optimal.ensures
