use Rattle.solve_printed.proofs.BeginLaws as found
use Rattle.solve_printed.proofs.law.certificates_begin.Goals as goal

pub returns : goal.returns
returns c = found.certificates_begin
