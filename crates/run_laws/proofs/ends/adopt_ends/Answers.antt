use Rattle.run_laws.proofs.WholeLaws as found
use Rattle.run_laws.proofs.ends.adopt_ends.Goals as goal

pub returns : goal.returns
returns c = found.adopt_ends
