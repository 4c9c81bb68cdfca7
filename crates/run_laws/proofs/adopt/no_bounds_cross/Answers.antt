use Rattle.run_laws.proofs.CrossLaws as found
use Rattle.run_laws.proofs.adopt.no_bounds_cross.Goals as goal

pub returns : goal.returns
returns c = found.no_bounds_cross
