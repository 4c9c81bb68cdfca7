use Rattle.run_laws.proofs.AwakeLaws as found
use Rattle.run_laws.proofs.adopt.adopt_pending.Goals as goal

pub returns : goal.returns
returns c = found.adopt_pending
