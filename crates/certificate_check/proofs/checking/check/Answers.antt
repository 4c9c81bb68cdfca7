use Rattle.certificate_check.proofs.VerdictLaws.{within_of}
use Rattle.certificate_check.proofs.checking.check.Goals as goal

pub check_tables-requires-clause-values : goal.check_tables-requires-clause-values
check_tables-requires-clause-values c = within_of c.args.report.now.values c.args.file.now.problem.sizes c.requires.fits.values

pub check_cut-requires-clause-values : goal.check_cut-requires-clause-values
check_cut-requires-clause-values c = within_of c.args.report.now.values c.args.file.now.problem.sizes c.requires.fits.values
