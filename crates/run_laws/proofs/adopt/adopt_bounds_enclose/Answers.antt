use Rattle.run_laws.proofs.AdoptRunLaws as found
use Rattle.run_laws.proofs.adopt.adopt_bounds_enclose.Goals as goal

pub returns : goal.returns
returns c = found.adopt_bounds_enclose
