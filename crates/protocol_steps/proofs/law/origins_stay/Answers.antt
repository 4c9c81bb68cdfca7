use Rattle.protocol_steps.proofs.StepLaws as found
use Rattle.protocol_steps.proofs.law.origins_stay.Goals as goal

pub returns : goal.returns
returns c = found.origins_stay
